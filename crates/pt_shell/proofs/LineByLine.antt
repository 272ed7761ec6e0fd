-- A run goes on by one line more, or ends.
use Rattle.std.proofs.Common.{◌≡◌, ℕ, suc, Bool, true, false, List, [], ◌++◌, sym, ap, ◌∙◌, append_assoc, append-nil, refl, subst, Option, Some, None}
use Rattle.std.specs.Io.KnownBytes.{Appends, Keeps}
use Rattle.std.specs.Io.BufRead.{strip_last}
use Rattle.pt_signal.specs.declared.config.Config.{Config}
use Rattle.pt_shell.specs.Sessions.{SessionState, SessionHears, is_comparing}
use Rattle.pt_shell.specs.Running.{SessionRuns, HasRun, HasRunAll, SessionSteps, ReadsLine, HearsLine, prompted, written_answer}

pub appends_then : (a b c : Option (List ℕ)) (x y : List ℕ) → Appends a b x → Appends b c y → Appends a c (x ++ y)
appends_then None b c x y h k = tt
appends_then (Some s) None c x y h k = absurd h
appends_then (Some s) (Some t) None x y h k = absurd k
appends_then (Some s) (Some t) (Some u) x y h k = k ∙ ap (λ z. z ++ y) h ∙ append_assoc s x y

pub appends_keeps : (a b c : Option (List ℕ)) (x : List ℕ) → Appends a b x → Keeps b c → Appends a c x
appends_keeps None b c x h k = tt
appends_keeps (Some s) None c x h k = absurd h
appends_keeps (Some s) (Some t) None x h k = absurd k
appends_keeps (Some s) (Some t) (Some u) x h k = k ∙ h

pub appends_nothing : (known : Option (List ℕ)) → Appends known known []
appends_nothing None = tt
appends_nothing (Some s) = sym (append-nil s)

pub keeps_nothing : (a b : Option (List ℕ)) → Keeps a b → Appends a b []
keeps_nothing None b k = tt
keeps_nothing (Some s) None k = absurd k
keeps_nothing (Some s) (Some t) k = k ∙ sym (append-nil s)

-- nothing was heard yet
pub begun : (p : Bool) (d : Config) (text : Option (List ℕ)) (s : SessionState) (w : Option (List ℕ)) → HasRun p d text text s w w s
begun p d None s w = tt
begun p d (Some text) s w = (0, [], (refl, refl, refl), appends_nothing w)

-- one line more
pub more : (p : Bool) (d : Config) (a b c : Option (List ℕ)) (s t u : SessionState) (w0 w1 w2 : Option (List ℕ))
    → HasRun p d a b s w0 w1 t → SessionSteps p d true b c t w1 w2 u → HasRun p d a c s w0 w2 u
more p d None b c s t u w0 w1 w2 h k = tt
more p d (Some text) None c s t u w0 w1 w2 h k = absurd h
more p d (Some text) (Some left) None s t u w0 w1 w2 h k = absurd k
more p d (Some text) (Some left) (Some rest) s t u w0 w1 w2 (n, wrote, runs, appends) (last, passes, left_is, after) =
    (suc n, wrote ++ last, (wrote, left, t, last, runs, passes, left_is, refl), appends_then w0 w1 w2 wrote last appends after)

-- there is none
pub ended : (p : Bool) (d : Config) (a b c : Option (List ℕ)) (s t u : SessionState) (w0 w1 w2 : Option (List ℕ))
    → HasRun p d a b s w0 w1 t → SessionSteps p d false b c t w1 w2 u → HasRunAll p d a s w0 w2
ended p d None b c s t u w0 w1 w2 h k = tt
ended p d (Some text) None c s t u w0 w1 w2 h k = absurd h
ended p d (Some text) (Some left) c s t u w0 w1 w2 (n, wrote, runs, appends) (none, same, prompt, compared) =
    (n, wrote, t, subst (λ (l : List ℕ). SessionRuns p d n text s wrote l t) none runs, appends_then w0 w1 w2 wrote (prompted p) appends prompt, compared)

-- a line that was read is heard behind the prompt
pub passed : (p : Bool) (d : Config) (a b : Option (List ℕ)) (line bare : List ℕ) (s t : SessionState) (w0 w1 w2 : Option (List ℕ))
    → ReadsLine true a b line → bare ≡ strip_last 10 line → Appends w0 w1 (prompted p) → HearsLine p d bare s w1 w2 t → SessionSteps p d true a b s w0 w2 t
passed p d None b line bare s t w0 w1 w2 r e a h = tt
passed p d (Some text) None line bare s t w0 w1 w2 r e a h = absurd r
passed p d (Some text) (Some left) line bare s t w0 w1 w2 (line_is, left_is) e a h = (
  prompted p ++ written_answer h.heard t,
  record {
    heard = h.heard;
    memory = h.memory;
    hears = subst (λ (l : List ℕ). SessionHears d l s h.heard t) (e ∙ ap (strip_last 10) line_is) h.hears;
    goes_on = h.goes_on;
    wrote_is = refl;
  },
  left_is,
  appends_then w0 w1 w2 (prompted p) (written_answer h.heard t) a h.appends,
)

-- no line was read
pub over : (p : Bool) (d : Config) (a b : Option (List ℕ)) (line : List ℕ) (s : SessionState) (w0 w1 : Option (List ℕ))
    → ReadsLine false a b line → Appends w0 w1 (prompted p) → is_comparing s ≡ false → SessionSteps p d false a b s w0 w1 s
over p d None b line s w0 w1 r a e = tt
over p d (Some text) b line s w0 w1 r a e = (r, refl, a, e)
