-- Points of the page, and their texts.
use Rattle.std.specs.Prelude.{ℕ, ◌+◌, ◌==◌, if◌then◌else◌, List, ◌++◌, codes, decimal}
use Rattle.pt_chart.specs.declared.point.Point.{Point}
use Rattle.pt_chart.specs.Page.{above, x_of, y_of}
use Rattle.pt_events.specs.Counting.{capped}

unfoldable pub point_text : Point → List ℕ
point_text p = decimal p.x ++ codes " " ++ decimal p.y

unfoldable pub at_text : Point → List ℕ
at_text p = codes "x=\"" ++ decimal p.x ++ codes "\" y=\"" ++ decimal p.y ++ codes "\""

abbrev pub point : ℕ → ℕ → Point
point x y = record { x = x; y = y }

-- where a column and a row meet
abbrev pub spot : ℕ → ℕ → Point
spot k row = point (x_of k) (y_of row)

-- how far an arrow to its own row goes up and down on its way around
abbrev pub sag : Point → Point → ℕ
sag from to = if from.y == to.y then 16 else 0

-- the points by which an arrow goes around, to the right, back to its own column
abbrev pub bend : Point → Point → Point × Point
bend from to =
    (point (capped (from.x + 44)) (above from.y (sag from to)), point (capped (from.x + 44)) (capped (to.y + sag from to)))
