-- `reserve_owed`: what holds in its loop over `i`.
use Rattle.std.proofs.Common.{◌≡◌, ◌<◌, ◌≤◌, ℕ, map, take, length}
use Rattle.std.specs.Prelude.{slice_index_or, count_by}
use Rattle.pt_process.specs.Peers.{peers_held}
use Rattle.pt_shard.specs.LettersState.{LettersState}
use Rattle.pt_shard.specs.LedgerState.{is_of_desk}
use Rattle.pt_shard.proofs.ledger.reserve_owed.Given as goal

abbrev pub invariant-loop-i : goal.invariant-loop-i
invariant-loop-i l = record {
  me : l.process.me ≡ l.initial.process.me;
  state : l.process.state ≡ l.initial.process.state;
  letters : map (λ (b : LettersState). b.letters) l.outbox.items ≡ map (λ (b : LettersState). b.letters) l.initial.outbox.items;
  few : length l.counts ≡ 64;
  counted : (e : ℕ) → e < 64 → slice_index_or l.counts e 0 ≡ count_by (is_of_desk e) (take l.i (peers_held l.initial.process.state));
  room : (e : ℕ) → e < length l.outbox.items → count_by (is_of_desk e) (take l.i (peers_held l.initial.process.state)) ≤ slice_index_or (map (λ (b : LettersState). b.room) l.outbox.items) e 0;
}
