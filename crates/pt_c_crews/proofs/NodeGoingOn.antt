-- What going on comes to, from what its stages tell.
use Rattle.std.proofs.Common.{◌≡◌, ◌≢◌, ℕ, true, false, List, None, length, refl, subst}
use Rattle.pt_signal.specs.declared.config.OpenError.TheVariants.{Bounds}
use Rattle.pt_signal.specs.declared.config.Setting.TheVariants.{Desks}
use Rattle.pt_desk.specs.DeskState.{DeskState}
use Rattle.pt_gathered.specs.Gathered.{GatheredState}
use Rattle.pt_c_desks.specs.declared.quiet_node.QuietNode.{QuietNode}
use Rattle.pt_c_values.specs.Codes.{empty, filled, open_code, wrong_desk}
use Rattle.pt_c_values.specs.Places.{HandlePlace, value_behind}
use Rattle.pt_c_desks.specs.Answers.{HistoryState}
use Rattle.pt_scheduler.specs.declared.scheduler.Scheduler.{Scheduler}
use Rattle.pt_c_crews.specs.Owning.{are_own}
use Rattle.pt_c_tools.specs.Nodes.{HandleTells, IsHistoryOfQuiet, ResumesAs}
use Rattle.pt_c_crews.specs.NodeGoingOn.{AreAllThere, GoOnWith, NodeGoesOn, Places, ResumesWith, Stages}
use Rattle.pt_c_tools.specs.FirstStages.{GathersFirst, SettlesFirst, has}
use Rattle.pt_c_tools.proofs.FirstStages.{passed, refused}

-- the last stage ---------------------------------------------------------------------------------

module _ (told : ℕ) (start h : HandlePlace HistoryState) (settled mid : HandlePlace QuietNode) (none : start ≡ None)
    (tells : HandleTells told (value_behind settled) IsHistoryOfQuiet start h) (same : mid ≡ settled)
    (crews : List (HandlePlace Scheduler)) (desks : List (HandlePlace DeskState)) (before : HandlePlace HistoryState) where
  tells_it : HandleTells told (value_behind settled) IsHistoryOfQuiet None h
  tells_it = subst (λ (p : HandlePlace HistoryState). HandleTells told (value_behind settled) IsHistoryOfQuiet p h) none tells

  pub not_told : told ≢ 0 → ResumesWith told crews crews desks desks settled mid before before
  not_told some = (told, h, tells_it, refused told told _ _ some refl (refl, refl, same, refl))

  module _ (resumed : ℕ) (left : HandlePlace QuietNode) (back : List (HandlePlace DeskState)) (done : told ≡ 0) (resumes : ResumesAs resumed mid left desks back) where
    resumes_it : ResumesAs resumed settled left desks back
    resumes_it = subst (λ (p : HandlePlace QuietNode). ResumesAs resumed p left desks back) same resumes

    pub not_resumed : resumed ≢ 0 → ResumesWith resumed crews crews desks back settled left before before
    not_resumed some = (told, h, tells_it, passed told resumed _ _ done (resumed, resumes_it, refused resumed resumed _ _ some refl (refl, refl)))

    pub has_resumed : resumed ≡ 0 → (later : List (HandlePlace Scheduler)) (after : HandlePlace HistoryState) → GoOnWith h crews later → after ≡ h → ResumesWith 0 crews later desks back settled left before after
    has_resumed fine later after on is = (told, h, tells_it, passed told 0 _ _ done (resumed, resumes_it, passed resumed 0 _ _ fine (refl, on, is)))

-- all of them ------------------------------------------------------------------------------------

-- what is refused before the stages
module _ (code : ℕ) (old new : Places) where
  pub crew_missing : code ≡ empty → new ≡ old → ¬ AreAllThere old.crews → NodeGoesOn code old new
  crew_missing is same not = record {
    none_there = λ n. (is, same);
    not_as_many = λ all. absurd (not all);
    told_before = λ all. absurd (not all);
    not_own = λ all. absurd (not all);
    stages = λ all. absurd (not all);
  }

  pub other_count : code ≡ open_code (Bounds Desks) → new ≡ old → AreAllThere old.crews → length old.crews ≢ length old.desks → NodeGoesOn code old new
  other_count is same all other = record {
    none_there = λ n. absurd (n all);
    not_as_many = λ a n. (is, same);
    told_before = λ a e. absurd (other e);
    not_own = λ a e. absurd (other e);
    stages = λ a e. absurd (other e);
  }

  pub history_there : code ≡ filled → new ≡ old → AreAllThere old.crews → length old.crews ≡ length old.desks → has old.history ≡ true → NodeGoesOn code old new
  history_there is same all count there = record {
    none_there = λ n. absurd (n all);
    not_as_many = λ a n. absurd (n count);
    told_before = λ a e h. (is, same);
    not_own = λ a e none. absurd (cc (there, none));
    stages = λ a e none. absurd (cc (there, none));
  }

  pub foreign_crew : code ≡ wrong_desk → new ≡ old → AreAllThere old.crews → length old.crews ≡ length old.desks → has old.history ≡ false → are_own 0 old.crews ≡ false → NodeGoesOn code old new
  foreign_crew is same all count none foreign = record {
    none_there = λ n. absurd (n all);
    not_as_many = λ a n. absurd (n count);
    told_before = λ a e there. absurd (cc (there, none));
    not_own = λ a e n f. (is, same);
    stages = λ a e n are. absurd (cc (foreign, are));
  }

  pub by_stages : AreAllThere old.crews → length old.crews ≡ length old.desks → has old.history ≡ false → are_own 0 old.crews ≡ true → Stages code old new → NodeGoesOn code old new
  by_stages all count none are s = record {
    none_there = λ n. absurd (n all);
    not_as_many = λ a n. absurd (n count);
    told_before = λ a e there. absurd (cc (there, none));
    not_own = λ a e n foreign. absurd (cc (foreign, are));
    stages = λ a e n o. s;
  }

-- the stages, where what no stage has changed is as it was
module _ (old : Places) (crews : List (HandlePlace Scheduler)) (history : HandlePlace HistoryState) (same_crews : crews ≡ old.crews) (same_history : history ≡ old.history)
    (gathered_code : ℕ) (desks : List (HandlePlace DeskState)) (gathered : HandlePlace GatheredState) (settled : HandlePlace QuietNode) (same_settled : settled ≡ old.settled)
    (gathers : GathersFirst gathered_code old.desks desks old.gathered gathered old.settled) where
  pub first_refused : gathered_code ≢ 0 → Stages gathered_code old (record { crews = crews; desks = desks; gathered = gathered; settled = settled; history = history })
  first_refused some = record {
    gathered_code = gathered_code;
    desks = desks;
    gathered = gathered;
    gathers = gathers;
    rest = refused gathered_code gathered_code _ _ some refl
        (λ i. record { crews = same_crews i; desks = desks; gathered = gathered; settled = same_settled i; history = same_history i });
  }

  module _ (done : gathered_code ≡ 0) (settled_code : ℕ) (left : HandlePlace GatheredState) (after : HandlePlace QuietNode) (settles : SettlesFirst settled_code gathered left settled after) where
    settles_it : SettlesFirst settled_code gathered left old.settled after
    settles_it = subst (λ (p : HandlePlace QuietNode). SettlesFirst settled_code gathered left p after) same_settled settles

    pub second_refused : settled_code ≢ 0 → Stages settled_code old (record { crews = crews; desks = desks; gathered = left; settled = after; history = history })
    second_refused some = record {
      gathered_code = gathered_code;
      desks = desks;
      gathered = gathered;
      gathers = gathers;
      rest = passed gathered_code settled_code _ _ done (
        settled_code,
        left,
        after,
        settles_it,
        refused settled_code settled_code _ _ some refl
            (λ i. record { crews = same_crews i; desks = desks; gathered = left; settled = after; history = same_history i }),
      );
    }

    pub last_stage : settled_code ≡ 0 → (code : ℕ) (later : List (HandlePlace Scheduler)) (back : List (HandlePlace DeskState)) (rest : HandlePlace QuietNode) (told : HandlePlace HistoryState)
        → ResumesWith code crews later desks back after rest history told
        → Stages code old (record { crews = later; desks = back; gathered = left; settled = rest; history = told })
    last_stage fine code later back rest told resumes = record {
      gathered_code = gathered_code;
      desks = desks;
      gathered = gathered;
      gathers = gathers;
      rest = passed gathered_code code _ _ done (
        settled_code,
        left,
        after,
        settles_it,
        passed settled_code code _ _ fine (
          refl,
          subst (λ (p : HandlePlace HistoryState). ResumesWith code old.crews later desks back after rest p told) same_history
              (subst (λ (p : List (HandlePlace Scheduler)). ResumesWith code p later desks back after rest history told) same_crews resumes),
        ),
      );
    }
