-- Monitors in a quiet history.
use Rattle.std.proofs.Common.{◌≡◌, ◌+◌, ◌≤◌, Bool, true, false, List, [], ◌∷◌, Option, Some, None, refl, sym, ◌∙◌, subst, arith}
use Rattle.std.specs.Map.{lookup}
use Rattle.std.proofs.lemmas.Bool.{true≢false, false≢true, and_parts}
use Rattle.pt_signal.specs.declared.pid.Pid.{Pid}
use Rattle.pt_signal.specs.declared.ids.Ref.{Ref}
use Rattle.pt_signal.specs.Values.{same_pid, same_ref}
use Rattle.pt_signal.specs.Process.{Sent}
use Rattle.pt_events.specs.History.{Past, Phase, unborn, living, ended, life, is_living, state_of, flying, arrived_since, IsLegal}
use Rattle.pt_laws.specs.Load.{IsQuiet}
use Rattle.pt_events.specs.Counting.{count}
use Rattle.pt_laws.specs.Watch.{is_monitor, is_demonitor, is_down_item, said_times, said_to, is_open, opens_to, open_in, kept_in}
use Rattle.pt_signal.proofs.Same.{same_pid_is, same_pid_refl}
use Rattle.pt_laws.proofs.monitoring.Counts.{count_missing, count_narrower}
use Rattle.pt_laws.proofs.monitoring.Downs.{opens, count_law}
use Rattle.pt_laws.proofs.living.Acts.{legal_acts}
use Rattle.pt_laws.proofs.monitoring.Monitors.{monitored, said_once, said_to_one, said_to_two, mon, dem, dwn}

-- the entry that is found is counted
found_open : (m : Ref) (es : List (Ref × Pid)) (b : Pid) → lookup (same_ref m) es ≡ Some b → 1 ≤ count (is_open m b) es
found_open m [] b h = absurd (cc)
found_open m (e ∷ es) b h = go (same_ref m e.0) refl h (found_open m es b)
  where
    go : (c : Bool) → same_ref m e.0 ≡ c → lookup (same_ref m) (e ∷ es) ≡ Some b → (lookup (same_ref m) es ≡ Some b → 1 ≤ count (is_open m b) es) → 1 ≤ count (is_open m b) (e ∷ es)
    go true f h ih =
        let k : Some e.1 ≡ Some b = rw f at h in
        let k2 : e.1 ≡ b = cc in
        let v : is_open m b e ≡ true = rw (k2, same_pid_refl b, f) refl in
        rw v (omega arith)
    go false f h ih = let k : lookup (same_ref m) es ≡ Some b = rw f at h in let j = ih k in omega arith

module _ (m : Ref) (w t : Pid) (past : Past) (legal : IsLegal [] past) (quiet : IsQuiet [] past) where
  nothing : (T : Sent → Bool) → count T (flying [] past) ≡ 0
  nothing T = rw quiet refl

  -- open at w exactly where kept at t
  pub open_is_kept : open_in w t m (life [] past w) ≡ kept_in w t m (life [] past t)
  open_is_kept =
      let i = (monitored m past legal w t).counts in
      let a = i.opened in let b = i.justified in
      let p = nothing (mon w t m) in let q = nothing (dem w t m) in let d = nothing (dwn w t m) in omega arith

  -- no live process keeps a watch of one that is not alive
  pub kept_by_none : is_living (life [] past w) ≡ false → kept_in w t m (life [] past t) ≡ 0
  kept_by_none h = sym open_is_kept ∙ none (life [] past w) h
    where
      none : (f : Phase) → is_living f ≡ false → open_in w t m f ≡ 0
      none unborn h = refl
      none (living s) h = absurd (true≢false h)
      none (ended r s) h = refl

  -- of the monitor that w made of t: given up, or one DOWN arrived, or open and kept
  pub one_of_three : is_living (life [] past w) ≡ true → said_to w t (is_monitor m) past ≡ 1
      → said_times w (is_demonitor m) past + count (is_down_item m) (arrived_since [] past w) + kept_in w t m (life [] past t) ≡ 1
  one_of_three h e =
      let law = count_law [] m w past (legal_acts [] past legal) in
      let once = said_once m w [] past (legal_acts [] past legal) in
      let one = said_to_one m w t past in
      let k = open_is_kept in
      let o = all_open (life [] past w) refl h in
      omega arith
    where
      all_open : (f : Phase) → life [] past w ≡ f → is_living f ≡ true → open_in w t m (life [] past w) ≡ opens m (state_of (life [] past w)).watching
      all_open unborn l h = absurd (false≢true h)
      all_open (ended r s) l h = absurd (false≢true h)
      all_open (living s) l h = rw l (found (lookup (same_ref m) s.watching) refl)
        where
          few : opens m s.watching ≤ 1
          few = let law = count_law [] m w past (legal_acts [] past legal) in let once = said_once m w [] past (legal_acts [] past legal) in
              let z : opens m (state_of (life [] past w)).watching ≡ opens m s.watching = rw l refl in omega arith

          less : opens_to m t s ≤ opens m s.watching
          less = count_narrower (is_open m t) (λ e. same_ref m e.0) (λ e h. (and_parts (same_pid t e.1) (same_ref m e.0) h).1) s.watching

          the_target : (b : Pid) → 1 ≤ count (is_open m b) s.watching → (c : Bool) → same_pid t b ≡ c → 1 ≤ opens_to m t s
          the_target b h true g = subst (λ b. 1 ≤ count (is_open m b) s.watching) (sym (same_pid_is t b g)) h
          the_target b h false g =
              let i = (monitored m past legal w b).counts in
              let mk = i.maker in
              let z : open_in w b m (life [] past w) ≡ count (is_open m b) s.watching = rw l refl in
              let two = said_to_two m w t b g past in
              let once = said_once m w [] past (legal_acts [] past legal) in absurd (omega arith)

          found : (o : Option Pid) → lookup (same_ref m) s.watching ≡ o → opens_to m t s ≡ opens m s.watching
          found None g = let c = count_missing (same_ref m) s.watching g in let l = less in omega arith
          found (Some b) g = let c = the_target b (found_open m s.watching b g) (same_pid t b) refl in let l = less in let f = few in omega arith
