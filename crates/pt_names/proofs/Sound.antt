-- A name that is given or taken away leaves each name with one process, and each process with one name.
use Rattle.std.proofs.Common.{◌≡◌, cond, Bool, true, false, Option, Some, None, Result, Ok, Err, OnOk, is_ok, is_err, refl, sym}
use Rattle.std.proofs.Common.{◌∙◌, ap, subst}
use Rattle.std.specs.Map.{lookup}
use Rattle.std.specs.declared.hash.FoldHasher.{FoldHasher}
use Rattle.std.specs.declared.hash.BuildHasherDefault.{BuildHasherDefault}
use Rattle.indexmap.specs.IndexMap.{IndexMap}
use Rattle.std.specs.Option.{option_map}
use Rattle.std.proofs.lemmas.Slice.Eq.{bytes_eq-Decides}
use Rattle.pt_signal.specs.declared.pid.Pid.{Pid}
use Rattle.pt_signal.specs.declared.ids.Ref.{Ref}
use Rattle.pt_signal.specs.Values.{same_pid}
use Rattle.pt_signal.proofs.Same.{same_pid_refl, same_pid_is}
use Rattle.pt_names.specs.declared.name.Name.{Name}
use Rattle.pt_names.specs.declared.names.Holder.{Holder}
use Rattle.pt_names.specs.State.{NamesState, state, holder_of, pid_of, name_at, same_name, IsOneToOne}
use Rattle.pt_names.specs.Calls.{IsFree, NamesChange}

same_name_is : (a b : Name) → same_name a b ≡ true → a ≡ b
same_name_is a b h = let e = (bytes_eq-Decides a.letters b.letters).0 h in λ i. record { letters = e i }

same_name_refl : (a : Name) → same_name a a ≡ true
same_name_refl a = (bytes_eq-Decides a.letters a.letters).1 refl

-- whichever it is of two
pub by_test : {X : Type 0} (P : X → Type 0) (b : Bool) (x y : X) → (b ≡ true → P x) → (b ≡ false → P y) → P (cond b x y)
by_test P true x y h k = h refl
by_test P false x y h k = k refl

at_true : {X : Type 0} (b : Bool) (x y : X) → b ≡ true → cond b x y ≡ x
at_true b x y h = rw h refl

at_false : {X : Type 0} (b : Bool) (x y : X) → b ≡ false → cond b x y ≡ y
at_false b x y h = rw h refl

pub unless : (b : Bool) → (b ≡ true → ⊥) → b ≡ false
unless true h = absurd (h refl)
unless false h = refl

some_none : {X : Type 0} (o : Option X) (x : X) → o ≡ Some x → o ≡ None → ⊥
some_none o x h k = cc

pub on_ok : {A E : Type 0} (P : Type 0) (r : Result A E) → is_err r ≡ false → OnOk r P → P
on_ok P (Ok a) e h = h
on_ok P (Err x) e h = absurd (cc)

pub on_is_ok : {A E : Type 0} (P : Type 0) (r : Result A E) → is_ok r ≡ true → OnOk r P → P
on_is_ok P (Ok a) e h = h
on_is_ok P (Err x) e h = absurd (cc)

-- what the two maps are after a name was put into each, where the second one had grown
pub registers : (hs hs' : IndexMap Name Holder (BuildHasherDefault FoldHasher))
    (ns grown ns' : IndexMap Pid Name (BuildHasherDefault FoldHasher)) (n : Name) (p : Pid) (m : Ref)
    → ((a : Name) → lookup (same_name a) hs'.entries ≡ cond (same_name n a) (Some (record { pid = p; monitor = m })) (lookup (same_name a) hs.entries))
    → grown.entries ≡ ns.entries
    → ((q : Pid) → lookup (same_pid q) ns'.entries ≡ cond (same_pid p q) (Some n) (lookup (same_pid q) grown.entries))
    → NamesChange n (Some (record { pid = p; monitor = m })) p (Some n) (state hs ns) (state hs' ns')
registers hs hs' ns grown ns' n p m put same put' = record {
  holders = put;
  names = λ q. put' q ∙ ap (λ es. cond (same_pid p q) (Some n) (lookup (same_pid q) es)) same;
}

module _ (old new : NamesState) (sound : IsOneToOne old) (n : Name) where
  -- a free name was given to a process that had none
  pub added : (p : Pid) (m : Ref) → IsFree n p old → NamesChange n (Some (record { pid = p; monitor = m })) p (Some n) old new
      → IsOneToOne new
  added p m free with_it = record {
    has_name = λ a h e. by_test (λ o. o ≡ Some h → name_at new h.pid ≡ Some a) (same_name n a) (Some (record { pid = p; monitor = m })) (holder_of old a)
        (λ same is.
        let h_is : ◌≡◌ {A = Holder} (record { pid = p; monitor = m }) h = cc in
        let p_is : p ≡ h.pid = ap (λ (x : Holder). x.pid) h_is in
        with_it.names h.pid ∙ at_true (same_pid p h.pid) (Some n) (name_at old h.pid) (subst (λ (x : Pid). same_pid p x ≡ true) p_is (same_pid_refl p)) ∙ ap Some (same_name_is n a same))
        (λ other is.
        let had = sound.has_name a h is in
        with_it.names h.pid ∙ at_false (same_pid p h.pid) (Some n) (name_at old h.pid) (unless (same_pid p h.pid) (λ same.
        some_none (name_at old h.pid) a had (ap (name_at old) (sym (same_pid_is p h.pid same)) ∙ free.name))) ∙ had)
        (sym (with_it.holders a) ∙ e);
    has_process = λ q a e. by_test (λ o. o ≡ Some a → pid_of new a ≡ Some q) (same_pid p q) (Some n) (name_at old q)
        (λ same is.
        let a_is : n ≡ a = cc in
        ap (option_map (λ (x : Holder). x.pid)) (with_it.holders a ∙ at_true (same_name n a) (Some (record { pid = p; monitor = m })) (holder_of old a) (subst (λ (x : Name). same_name n x ≡ true) a_is (same_name_refl n)))
        ∙ ap Some (same_pid_is p q same))
        (λ other is.
        let had = sound.has_process q a is in
        ap (option_map (λ (x : Holder). x.pid)) (with_it.holders a ∙ at_false (same_name n a) (Some (record { pid = p; monitor = m })) (holder_of old a) (unless (same_name n a) (λ same.
        some_none (pid_of old a) q had (ap (λ b. pid_of old b) (sym (same_name_is n a same)) ∙ ap (option_map (λ (x : Holder). x.pid)) free.holder)))) ∙ had)
        (sym (with_it.names q) ∙ e);
  }

  -- a name was taken from the process that had it
  pub removed : (p : Pid) → pid_of old n ≡ Some p → name_at old p ≡ Some n → NamesChange n None p None old new → IsOneToOne new
  removed p holds has with_it = record {
    has_name = λ a h e. by_test (λ o. o ≡ Some h → name_at new h.pid ≡ Some a) (same_name n a) None (holder_of old a)
        (λ same is. cc)
        (λ other is.
        let had = sound.has_name a h is in
        with_it.names h.pid ∙ at_false (same_pid p h.pid) None (name_at old h.pid) (unless (same_pid p h.pid) (λ same.
        let had_p : name_at old p ≡ Some a = ap (name_at old) (same_pid_is p h.pid same) ∙ had in
        let n_is : n ≡ a = cc in
        let t : same_name n a ≡ true = subst (λ (x : Name). same_name n x ≡ true) n_is (same_name_refl n) in
        cc)) ∙ had)
        (sym (with_it.holders a) ∙ e);
    has_process = λ q a e. by_test (λ o. o ≡ Some a → pid_of new a ≡ Some q) (same_pid p q) None (name_at old q)
        (λ same is. cc)
        (λ other is.
        let had = sound.has_process q a is in
        ap (option_map (λ (x : Holder). x.pid)) (with_it.holders a ∙ at_false (same_name n a) None (holder_of old a) (unless (same_name n a) (λ same.
        let a_had_p : pid_of old a ≡ Some p = ap (λ b. pid_of old b) (sym (same_name_is n a same)) ∙ holds in
        let p_is : p ≡ q = cc in
        let t : same_pid p q ≡ true = subst (λ (x : Pid). same_pid p x ≡ true) p_is (same_pid_refl p) in
        cc))) ∙ had)
        (sym (with_it.names q) ∙ e);
  }
