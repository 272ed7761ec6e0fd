-- What a table tells is what every merge says.
use Rattle.std.proofs.Common.{◌≡◌, ℕ, ◌+◌, ◌<◌, ◌≤◌, Option, Some, None, is_some, List, length, get_or, refl, ap, sym, ◌∙◌, subst, length-append, arith}
use Rattle.std.specs.Option.{option_map}
use Rattle.std.specs.Map.{lookup}
use Rattle.std.specs.List.{list_any}
use Rattle.pt_signal.specs.declared.pid.Pid.{Pid}
use Rattle.pt_signal.specs.declared.ids.Ref.{Ref}
use Rattle.pt_signal.specs.Values.{same_ref}
use Rattle.pt_signal.specs.Process.{held}
use Rattle.pt_events.specs.declared.event.Stamped.{Stamped}
use Rattle.pt_events.specs.History.{Past, Start, at_start, life, state, state_of, arrived, arrived_since, open_monitors}
use Rattle.pt_events.specs.Journal.{Journals, events, IsMerge}
use Rattle.pt_events.specs.Locality.{JournalsSay}
use Rattle.pt_events.specs.Takes.{taken}
use Rattle.pt_accounts.specs.LifeState.{LifeState, account_of}
use Rattle.pt_accounts.specs.Table.{TableTells, found}
use Rattle.pt_accounts.specs.DeskLives.{DeskTable, life_in, IsTableOf, linked_in, kept_by, watching_in}
use Rattle.pt_accounts.specs.LivesState.{Lives, AreLivesOf, account_at, account_in}
use Rattle.pt_accounts.proofs.Counted.{balance}

-- one desk -----------------------------------------------------------------------------------------

account_told : (start : Start) (past : Past) (p : Pid) (o : Option LifeState) → TableTells start past p o → length (taken past p) + length (state start past p).waiting ≡ length (arrived start past p)
    → option_map account_of o ≡ account_in start past p
account_told start past p None t b = rw t.0 refl
account_told start past p (Some l) t b = ap (λ l. Some (account_of l)) t.0 ∙ rw (t.1, b) refl

linked_told : (start : Start) (past : Past) (p : Pid) (o : Option LifeState) (q : Pid) → TableTells start past p o → linked_in o q ≡ held (state start past p).links q
linked_told start past p None q t = rw t.0 refl
linked_told start past p (Some l) q t = ap (λ l. held (state_of l.phase).links q) t.0

kept_told : (start : Start) (past : Past) (p : Pid) (o : Option LifeState) (m : Ref) → TableTells start past p o → kept_by o m ≡ list_any (λ k. same_ref m k.0) (state start past p).kept
kept_told start past p None m t = rw t.0 refl
kept_told start past p (Some l) m t = ap (λ l. list_any (λ k. same_ref m k.0) (state_of l.phase).kept) t.0

watching_told : (start : Start) (past : Past) (p : Pid) (o : Option LifeState) (m : Ref) → TableTells start past p o → watching_in o m ≡ is_some (lookup (same_ref m) (open_monitors (life start past p)))
watching_told start past p None m t = rw t.0 refl
watching_told start past p (Some l) m t = ap (λ l. is_some (lookup (same_ref m) (open_monitors l.phase))) t.0

tells_of : (start : Start) (d : ℕ) (past : Past) (t : DeskTable) (p : Pid) → p.shard ≡ d → IsTableOf start d past t → TableTells start past p (life_in t p)
tells_of start d past t p s h = subst (λ n. TableTells start past p (found n t.slots p)) (sym h.0) (h.1 p s)

-- the node -----------------------------------------------------------------------------------------

module _ (start : Start) (journals : Journals) (lives : Lives) (of : AreLivesOf start journals lives) (merged : List Stamped) (m : IsMerge journals merged) (say : JournalsSay) (p : Pid) where
  -- what the table of its desk has, or nothing where there is no such table
  module _ (o : Option LifeState) (tells : TableTells start (events (journals p.shard)) p o) where
    pub node_account : option_map account_of o ≡ account_in start (events merged) p
    node_account =
        account_told start (events (journals p.shard)) p o tells ((balance p start of.desks.low of.desks.top p.shard (journals p.shard) (of.desks.local p.shard)).0
        ∙ sym (length-append (state_of (at_start start p)).waiting (arrived_since start (events (journals p.shard)) p)))
        ∙ ap (λ f. account_at f (arrived start (events (journals p.shard)) p) (taken (events (journals p.shard)) p)) (say start of.desks.low of.desks.top journals merged p of.desks.local m).0
        ∙ ap (λ a. account_at (life start (events merged) p) a (taken (events (journals p.shard)) p)) (say start of.desks.low of.desks.top journals merged p of.desks.local m).1
        ∙ ap (account_at (life start (events merged) p) (arrived start (events merged) p)) (say start of.desks.low of.desks.top journals merged p of.desks.local m).2

    pub node_linked : (q : Pid) → linked_in o q ≡ held (state start (events merged) p).links q
    node_linked q = linked_told start (events (journals p.shard)) p o q tells ∙ ap (λ f. held (state_of f).links q) (say start of.desks.low of.desks.top journals merged p of.desks.local m).0

    pub node_kept : (r : Ref) → kept_by o r ≡ list_any (λ k. same_ref r k.0) (state start (events merged) p).kept
    node_kept r = kept_told start (events (journals p.shard)) p o r tells ∙ ap (λ f. list_any (λ k. same_ref r k.0) (state_of f).kept) (say start of.desks.low of.desks.top journals merged p of.desks.local m).0

    pub node_watching : (r : Ref) → watching_in o r ≡ is_some (lookup (same_ref r) (open_monitors (life start (events merged) p)))
    node_watching r = watching_told start (events (journals p.shard)) p o r tells ∙ ap (λ f. is_some (lookup (same_ref r) (open_monitors f))) (say start of.desks.low of.desks.top journals merged p of.desks.local m).0

-- a desk without a table
pub tells_none : (start : Start) (journals : Journals) (lives : Lives) (p : Pid) (n : ℕ) → AreLivesOf start journals lives → n ≡ p.shard → length lives ≤ n → TableTells start (events (journals p.shard)) p None
tells_none start journals lives p n of e h = subst (λ j. TableTells start (events j) p None) (sym (of.rest p.shard (omega arith))) (of.nobody p (omega arith), refl)

pub tells_here : (start : Start) (journals : Journals) (lives : Lives) (p : Pid) (n : ℕ) (t : DeskTable) → AreLivesOf start journals lives → n ≡ p.shard → n < length lives → t ≡ get_or lives n t
    → TableTells start (events (journals p.shard)) p (life_in t p)
tells_here start journals lives p n t of e h r =
    let k : p.shard < length lives = omega arith in
    let same : t ≡ get_or lives p.shard t = subst (λ n. t ≡ get_or lives n t) e r in
    tells_of start p.shard (events (journals p.shard)) t p refl (subst (IsTableOf start p.shard (events (journals p.shard))) (sym same) (of.told p.shard t k))
