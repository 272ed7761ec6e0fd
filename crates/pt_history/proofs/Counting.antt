-- The messages of one process are as many as have each fate.
use Rattle.std.proofs.Common.{◌≡◌, ℕ, ◌+◌, List, [], ◌∷◌, length, map, refl, sym, ap, ◌∙◌, arith, length-append}
use Rattle.std.specs.Prelude.{IsPermutation, sum_by}
use Rattle.std.proofs.lemmas.List.Sorted.{sum_by-IsPermutation}
use Rattle.std.proofs.lemmas.List.Sums.{sum_by-cons}
use Rattle.pt_signal.specs.declared.pid.Pid.{Pid}
use Rattle.pt_signal.specs.declared.item.Item.{Item}
use Rattle.pt_laws.specs.Sender.{user_of, users}
use Rattle.pt_history.specs.Custody.{ItemFate, was_taken, waits, was_lost, items_with, EachCounts}

module _ (a p : Pid) where
  abbrev many : List Item → ℕ
  many is = length (users a p is)

  many_more : (i : Item) (is : List Item) → many (i ∷ is) ≡ length (user_of a p i) + many is
  many_more i is = length-append (user_of a p i) (users a p is)

  many_sum : (is : List Item) → many is ≡ sum_by (λ i. length (user_of a p i)) is
  many_sum [] = refl
  many_sum (i ∷ is) = many_more i is ∙ ap (λ n. length (user_of a p i) + n) (many_sum is) ∙ sym (sum_by-cons (λ i. length (user_of a p i)) i is)

  as_many : (xs ys : List Item) → IsPermutation xs ys → many xs ≡ many ys
  as_many xs ys h = many_sum xs ∙ sym (sum_by-IsPermutation (λ i. length (user_of a p i)) xs ys h) ∙ sym (many_sum ys)

  by_fates : (came : List (Item × ItemFate)) → many (map (λ c. c.0) came) ≡ many (items_with was_taken came) + many (items_with waits came) + many (items_with was_lost came)
  by_fates [] = refl
  by_fates ((i, was_taken) ∷ came) = omega (arith, by_fates came, many_more i (map (λ c. c.0) came), many_more i (items_with was_taken came))
  by_fates ((i, waits) ∷ came) = omega (arith, by_fates came, many_more i (map (λ c. c.0) came), many_more i (items_with waits came))
  by_fates ((i, was_lost) ∷ came) = omega (arith, by_fates came, many_more i (map (λ c. c.0) came), many_more i (items_with was_lost came))

pub each_counts : EachCounts
each_counts p sent took waiting lost on_way a h =
    let items = map (λ (c : Item × ItemFate). c.0) h.came in
    let sends : length (sent a) ≡ length (users a p items) + length (on_way a) = ap length (h.sent_is a) ∙ length-append (users a p items) (on_way a) in
    let fates = by_fates a p h.came in
    let takes = as_many a p (items_with was_taken h.came) took h.taken_are in
    let wait = ap (λ is. length (users a p is)) h.waiting_are in
    let lose = ap (λ is. length (users a p is)) h.lost_are in
    omega (arith, sends, fates, takes, wait, lose)
