-- Where things stand on the page, in pixels.
use Rattle.std.specs.Prelude.{ℕ, ◌+◌, ◌-◌, ◌*◌, ◌/◌, max, Option, Some, None}
use Rattle.pt_chart.specs.declared.page.Page.{Page}
use Rattle.pt_events.specs.Counting.{capped}

-- 180 from column to column, the first behind the stamps of the events
abbrev pub x_of : ℕ → ℕ
x_of column = capped (180 * column + 164)

-- 32 from row to row, and 40 more after each 40 rows, where the names of the processes stand again
abbrev pub y_of : ℕ → ℕ
y_of row = capped (32 * row + 40 * (row / 40) + 152)

abbrev pub above : ℕ → ℕ → ℕ
above y by = y - by

-- the middle of a row, or where all lines end
abbrev pub row_or_end : Page → Option ℕ → ℕ
row_or_end p None = y_of p.rows
row_or_end p (Some row) = y_of row

-- room for all columns, for what stands out of the last one, and for the legend
abbrev pub width_of : Page → ℕ
width_of p = max (capped (180 * p.columns + 74 + p.beside)) 250

abbrev pub height_of : Page → ℕ
height_of p = capped (y_of p.rows + 16)
