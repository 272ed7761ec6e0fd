-- The processes of a desk once one of them was lent and given back.
use Rattle.std.proofs.Common.{◌≡◌, ℕ, ◌+◌, ◌<◌, Bool, true, false, cond, ◌==◌, Option, Some, None, refl, sym, ap, ◌∙◌, subst}
use Rattle.std.proofs.lemmas.Bool.{eqb-true, eq-eqb}
use Rattle.pt_signal.specs.declared.pid.Pid.{Pid}
use Rattle.std.specs.Prelude.{IfSome, IsSome}
use Rattle.pt_signal.specs.declared.ids.LinkId.{LinkId}
use Rattle.pt_signal.specs.declared.reason.Reason.{Reason}
use Rattle.pt_signal.specs.Process.{ProcessState}
use Rattle.pt_slots.specs.State.{at, next_key, with_value}
use Rattle.pt_slots.specs.Calls.{Written}
use Rattle.pt_slots.proofs.Steps.{written}
use Rattle.pt_process.specs.ProcessView.{ProcessView, Owing, owing_of}
use Rattle.pt_shard.specs.Acts.{HasRoomIf}
use Rattle.pt_shard.specs.Processes.{Table, in_place, process_at, living_at, key_at, changed, is_place_of, Changes, Ends, IsSameTable, HasRoomFor}
use Rattle.pt_shard.specs.Reading.{read_of}
use Rattle.pt_shard.proofs.Acting.{own_place}
use Rattle.pt_shard.proofs.Vacancy.{same_place}

module _ (desk : ℕ) (table : Table) (p : Pid) (was : ProcessView) (found : Some was ≡ living_at desk table p) where
  here : (p.shard ≡ desk) × (at table p.slot p.version ≡ Some was)
  here = go (p.shard == desk) refl found
    where
      go : (b : Bool) → (p.shard == desk) ≡ b → Some was ≡ cond b (at table p.slot p.version) None → (p.shard ≡ desk) × (at table p.slot p.version ≡ Some was)
      go true e k = (eqb-true p.shard desk e, sym k)
      go false e k = absurd (cc)

  pub there : Some (was.me, was.state) ≡ process_at desk table p
  there = let e = here in rw (eq-eqb p.shard desk e.0) (sym (ap read_of e.1))

  -- given back with its state changed by f
  module _ (f : Pid → ProcessState → ProcessState) (now : ProcessView) (me : now.me ≡ was.me) (state : now.state ≡ f was.me was.state) where
    wrote_it : Written (key_at p) now table (with_value table (key_at p) now)
    wrote_it = written table (key_at p) was here.1 now

    value : changed f (in_place table p) ≡ Some (now.me, now.state)
    value = ap (λ o. changed f (read_of o)) here.1 ∙ λ i. Some (sym me i, sym state i)

    pub given_back : Changes p f table (with_value table (key_at p) now)
    given_back = record {
      puts = record {
        live = λ slot version. go (is_place_of p slot version) slot version refl;
        settings = record { issues = wrote_it.issues; capacity = wrote_it.settings.capacity; top_version = wrote_it.settings.top_version };
      };
      next = wrote_it.next;
    }
      where
        go : (b : Bool) (slot version : ℕ) → is_place_of p slot version ≡ b
            → read_of (at (with_value table (key_at p) now) slot version) ≡ cond (is_place_of p slot version) (changed f (in_place table p)) (read_of (at table slot version))
        go true slot version h = let e = wrote_it.live slot version in rw h (ap read_of e ∙ rw h (sym value))
        go false slot version h = let e = wrote_it.live slot version in rw h (ap read_of e ∙ rw h refl)

  -- given back with room for one more link
  pub roomy : (now : ProcessView) (link : Option LinkId) → HasRoomIf link now → HasRoomFor link p (with_value table (key_at p) now)
  roomy now None room = tt
  roomy now (Some i) room =
      let stands : at (with_value table (key_at p) now) p.slot p.version ≡ Some now = (written table (key_at p) was here.1 now).live p.slot p.version ∙ rw (own_place p) refl in
      subst (λ o. IfSome o (λ r. 0 < r.room)) (sym stands) room

  -- given back as it was
  pub unharmed : (now : ProcessView) → now.me ≡ was.me → now.state ≡ was.state → IsSameTable table (with_value table (key_at p) now)
  unharmed now me state =
      let back = given_back (λ q s. s) now me state in
      record { live = λ slot version. go (is_place_of p slot version) slot version refl; settings = back.puts.settings; next = back.next }
    where
      there_is : in_place table p ≡ Some (now.me, now.state)
      there_is = ap read_of here.1 ∙ λ i. Some (sym me i, sym state i)

      go : (b : Bool) (slot version : ℕ) → is_place_of p slot version ≡ b → read_of (at (with_value table (key_at p) now) slot version) ≡ read_of (at table slot version)
      go true slot version h =
          let e = same_place p slot version h in
          let back = (given_back (λ q s. s) now me state).puts.live slot version in
          let held : read_of (at table slot version) ≡ Some (now.me, now.state)
          = sym (ap (λ x. read_of (at table x p.version)) e.0 ∙ ap (λ x. read_of (at table slot x)) e.1) ∙ there_is in
          back ∙ rw h (value (λ q s. s) now me state ∙ sym held)
      go false slot version h = (given_back (λ q s. s) now me state).puts.live slot version ∙ rw h refl

-- a process that is taken out where only room was made
pub ends_after : (p : Pid) (r : Reason) (owing : Owing) (old mid new : Table) → IsSameTable old mid → Ends p r owing mid new → Ends p r owing old new
ends_after p r owing old mid new same ends = record {
  owes = subst (λ o. IfSome o (λ x. owing ≡ owing_of x.0 x.1 r)) (same.live p.slot p.version) ends.owes;
  lived = subst IsSome (same.live p.slot p.version) ends.lived;
  puts = record {
    live = λ slot version. ends.puts.live slot version ∙ ap (λ o. cond (is_place_of p slot version) None o) (same.live slot version);
    settings = record {
      issues = λ slot. ends.puts.settings.issues slot ∙ same.settings.issues slot;
      capacity = ends.puts.settings.capacity ∙ same.settings.capacity;
      top_version = ends.puts.settings.top_version ∙ same.settings.top_version;
    };
  };
  offers = ends.offers;
  next =
      ends.next
      ∙ ap (λ t. cond (p.version == t) (next_key mid) (Some (record { slot = p.slot; version = p.version + 1 }))) same.settings.top_version
      ∙ ap (λ n. cond (p.version == old.top_version) n (Some (record { slot = p.slot; version = p.version + 1 }))) same.next;
}

-- a process that was not found
pub nobody : (desk : ℕ) (table : Table) (p : Pid) → None ≡ living_at desk table p → process_at desk table p ≡ None
nobody desk table p none = go (p.shard == desk) refl none
  where
    go : (b : Bool) → (p.shard == desk) ≡ b → None ≡ cond b (at table p.slot p.version) None → process_at desk table p ≡ None
    go true e k = rw e (sym (ap read_of k))
    go false e k = rw e refl
