-- The tables of desks, as a gathered node takes them.
use Rattle.std.proofs.Common.{◌≡◌, ◌-◌, ◌<◌, List, [], ◌∷◌, length, get_or, refl, sym, ◌∙◌, subst, arith}
use Rattle.std.proofs.lemmas.List.{drop_all, get_or-map, length-map}
use Rattle.pt_events.specs.Journal.{events}
use Rattle.pt_accounts.specs.Table.{AreTold}
use Rattle.pt_accounts.specs.DeskLives.{oldest}
use Rattle.pt_shard.specs.ShardState.{ShardState}
use Rattle.pt_gathered.specs.Tables.{AreTables, IsTableFor}
use Rattle.pt_desk.specs.Sight.{Sight, IsSeated}
use Rattle.pt_desk.specs.DeskState.{DeskState}
use Rattle.pt_workers.specs.Desks.{AreWhole, all_shards}
use Rattle.pt_node.specs.Seating.{all_tables}

-- nothing of the journal has been read yet
table_for : (s : ShardState) (v : Sight) → IsSeated s v → IsTableFor s v.before
table_for s v seated =
    let t = v.before in
    let none : oldest 0 s.journal ≡ [] = drop_all (length s.journal - 0) s.journal (omega arith) in
    record {
      desk = seated.told.0;
      read = record {
        within = omega (arith, seated.unread);
        told =
            subst (λ n. AreTold s.start t.desk t.slots (events (oldest n s.journal))) (sym seated.unread)
            (subst (λ j. AreTold s.start t.desk t.slots (events j)) (sym none)
            (subst (λ d. AreTold s.start d t.slots []) (sym seated.told.0) seated.told.1));
      };
    }

pub are_tables : (desks : List DeskState) → AreWhole desks → AreTables (all_shards desks) (all_tables desks)
are_tables [] whole = record { count = refl; each = λ d x t h. absurd (omega arith) }
are_tables (y ∷ desks) whole = record {
  count = length-map (y ∷ desks) (λ (d : DeskState). d.sight.before) ∙ sym (length-map (y ∷ desks) (λ (d : DeskState). d.shard));
  each = λ d x t h.
      let within : d < length (y ∷ desks) = omega (arith, h, length-map (y ∷ desks) (λ (d : DeskState). d.shard)) in
      let z : DeskState = get_or (y ∷ desks) d y in
      subst (λ s. IsTableFor s (get_or (all_tables (y ∷ desks)) d t)) (sym (get_or-map (λ (d : DeskState). d.shard) (y ∷ desks) d y x within))
      (subst (IsTableFor z.shard) (sym (get_or-map (λ (d : DeskState). d.sight.before) (y ∷ desks) d y t within)) (table_for z.shard z.sight (whole d y within).seated));
}
