-- What a process gets when it is come to.
use Rattle.std.proofs.Common.{◌≡◌, ◌⊎◌, inl, inr, ℕ, Bool, true, false, cond, not, List, Option, Some, None, is_some, Result, Ok, Err, refl, subst}
use Rattle.std.specs.Prelude.{MatchBool, nat_le}
use Rattle.pt_signal.specs.declared.pid.Pid.{Pid}
use Rattle.pt_signal.specs.declared.item.Item.{Item}
use Rattle.pt_shard.specs.declared.fault.Fault.{Fault}
use Rattle.pt_shard.specs.declared.fault.Fault.TheVariants.{Full, Memory, Worn, Myself, NoProc, Gone as Missing}
use Rattle.pt_shard.specs.ShardState.{ShardState, lives}
use Rattle.pt_behaviour.specs.declared.births.Role.{Role}
use Rattle.pt_behaviour.specs.declared.behaviour.Next.{Next}
use Rattle.pt_behaviour.specs.declared.behaviour.Next.TheVariants.{Wait, WaitUntil, Proceed, Running, Stop}
use Rattle.pt_crew.specs.declared.crew.Tended.{Tended}
use Rattle.pt_crew.specs.declared.crew.Tended.TheVariants.{Idle, Gone}
use Rattle.pt_behaviour.specs.Behaving.{Answers, AnswersNow}
use Rattle.pt_crew.specs.Visiting.{HandsTo, LeavesAs, SeesTo, StaysAs, TakesAs}
use Rattle.pt_crew.specs.Parts.{Gets, got_as}

-- a call that returned what it got
pub got_ok : (over none : Bool) (got : Option Item) → is_some got ≡ not none → ((none ≡ true × over ≡ true) ⊎ (none ≡ false)) → Ok got ≡ got_as over (Ok got)
got_ok over none (Some i) some either = refl
got_ok true none None some either = refl
got_ok false none None some (inl k) = let over : false ≡ true = k.1 in absurd (cc)
got_ok false true None some (inr k) = absurd (cc)
got_ok false false None some (inr k) = absurd (cc)

module _ {B : Type 0} (answers : AnswersNow B) (p : Pid) (r : B × Next) (item : Option Item) (d mid e : ShardState) (t : Tended) (now : Option (B × Next)) (births : List (Role B)) where
  -- what is handed over is what was got
  gets_it : (other : Option Item) (start : ShardState) → item ≡ other → mid ≡ start → HandsTo answers p r.0 item mid t now e births → HandsTo answers p r.0 other start t now e births
  gets_it other start is same h = subst (λ (x : Option Item). HandsTo answers p r.0 x start t now e births) is (subst (λ (x : ShardState). HandsTo answers p r.0 item x t now e births) same h)

  proceeds_with : (alive : Bool) → Ok item ≡ cond alive (Ok None) (Err Gone) → mid ≡ d → HandsTo answers p r.0 item mid t now e births → MatchBool alive (HandsTo answers p r.0 None d t now e births) (LeavesAs d t now e)
  proceeds_with true is same h = let none : item ≡ None = cc in gets_it None d none same h
  proceeds_with false is same h = absurd (cc)

  none_with : (over : Bool) → Ok item ≡ cond over (Ok None) (Err Idle) → HandsTo answers p r.0 item mid t now e births → MatchBool over (HandsTo answers p r.0 None mid t now e births) (StaysAs Idle r mid t now e)
  none_with true is h = let none : item ≡ None = cc in gets_it None mid none refl h
  none_with false is h = absurd (cc)

  takes_with : (over : Bool) (result : Result (Option Item) Fault) → Ok item ≡ got_as over result → HandsTo answers p r.0 item mid t now e births → TakesAs answers p r over mid result t now e births
  takes_with over (Ok None) is h = none_with over is h
  takes_with over (Ok (Some i)) is h = let some : item ≡ Some i = cc in gets_it (Some i) mid some refl h
  takes_with over (Err Missing) is h = absurd (cc)
  takes_with over (Err Memory) is h = absurd (cc)
  takes_with over (Err Worn) is h = absurd (cc)
  takes_with over (Err Full) is h = absurd (cc)
  takes_with over (Err Myself) is h = absurd (cc)
  takes_with over (Err NoProc) is h = absurd (cc)

-- one that gets an item, or none, and is handed it
pub sees_item : {B : Type 0} (answers : Answers B) (time : ℕ) (p : Pid) (b : B) (n : Next) (item : Option Item) (d mid e : ShardState) (t : Tended) (now : Option (B × Next)) (births : List (Role B))
    → Gets time p n d (Ok item) mid → HandsTo (answers time) p b item mid t now e births → SeesTo answers time p b n d t now e births
sees_item answers time p b (Stop r) item d mid e t now births g h = absurd (let is = g.2 in cc)
sees_item answers time p b Proceed item d mid e t now births g h = proceeds_with (answers time) p (b, Proceed) item d mid e t now births (lives d p) g.1 g.0 h
sees_item answers time p b Running item d mid e t now births g h = absurd (let is = g.1 in cc)
sees_item answers time p b (Wait k) item d mid e t now births g h = (g.0, mid, g.1, takes_with (answers time) p (b, Wait k) item d mid e t now births false g.0 g.2 h)
sees_item answers time p b (WaitUntil k at) item d mid e t now births g h = (g.0, mid, g.1, takes_with (answers time) p (b, WaitUntil k at) item d mid e t now births (nat_le at time) g.0 g.2 h)
