-- The text of each part of a drawing, as SVG. Numbers are pixels.
use Rattle.std.specs.Prelude.{ℕ, ◌+◌, ◌-◌, ◌*◌, ◌%◌, ◌==◌, nat_lt, not, if◌then◌else◌, ◌&&◌, Bool, true, false, List, [], ◌∷◌, ◌++◌, codes}
use Rattle.std.specs.Prelude.{decimal, length, take, slice_index_or, Option, Some, None}
use Rattle.std.specs.List.{flat_map}
use Rattle.pt_signal.specs.declared.pid.Pid.{Pid}
use Rattle.pt_signal.specs.declared.reason.Reason.{Reason}
use Rattle.pt_signal.specs.declared.signal.Signal.{Signal}
use Rattle.pt_signal.specs.declared.signal.Signal.TheVariants as signal
use Rattle.pt_signal.specs.Text.{pid_text, reason_text, signal_text}
use Rattle.pt_events.specs.declared.event.Stamped.{Stamped}
use Rattle.pt_events.specs.Text.{stamped_text}
use Rattle.pt_chart.specs.declared.layout.Arrow.{Arrow}
use Rattle.pt_chart.specs.declared.page.Page.{Page}
use Rattle.pt_chart.specs.declared.part.Letter.{Letter}
use Rattle.pt_chart.specs.declared.part.Part.{Part}
use Rattle.pt_chart.specs.declared.point.Point.{Point}
use Rattle.pt_chart.specs.Points.{point_text, at_text, point, spot, bend}
use Rattle.pt_chart.specs.declared.part.Part.TheVariants.{Ground, Desk, Column, Life, Saying, Flight, Mark, End}
use Rattle.pt_chart.specs.declared.part.Part.TheVariants.{Name, Line}
use Rattle.pt_chart.specs.declared.part.Mark as mark
use Rattle.pt_chart.specs.declared.part.Mark.TheVariants.{Bearing, Birth, Taking, Trapping, Refusal}
use Rattle.pt_chart.specs.declared.strokes.Stroke.{Stroke}
use Rattle.pt_chart.specs.declared.strokes.Stroke.TheVariants as stroke
use Rattle.pt_chart.specs.declared.style.TheConstants.{STYLE}
use Rattle.pt_chart.specs.Rows.{is_at_row}
use Rattle.pt_chart.specs.Page.{above, x_of, y_of, row_or_end, width_of, height_of}
use Rattle.pt_events.specs.Counting.{capped}

-- by which stroke the letter of a signal is drawn
abbrev pub stroke_of : Signal → Stroke
stroke_of (signal.Message body) = stroke.Message
stroke_of (signal.Link i) = stroke.Link
stroke_of (signal.Unlink ids) = stroke.Link
stroke_of (signal.Exit r) = stroke.Exit
stroke_of (signal.LinkExit ids r) = stroke.Exit
stroke_of (signal.Monitor m) = stroke.Monitor
stroke_of (signal.Demonitor m) = stroke.Monitor
stroke_of (signal.Down m r) = stroke.Monitor
stroke_of (signal.AliveAsk m) = stroke.Question
stroke_of (signal.AliveSay m x) = stroke.Question

unfoldable pub stroke_text : Stroke → List ℕ
stroke_text stroke.Message = codes "m"
stroke_text stroke.Exit = codes "x"
stroke_text stroke.Link = codes "l"
stroke_text stroke.Monitor = codes "o"
stroke_text stroke.Question = codes "q"

-- a character as XML has it; what is not ASCII, which no text here has, is a question mark
abbrev pub escape_one : ℕ → List ℕ
escape_one b =
    if b == 38 then codes "&amp;" else if b == 60 then codes "&lt;" else if nat_lt b 128 then b ∷ [] else codes "?"

abbrev pub escape : List ℕ → List ℕ
escape text = flat_map escape_one text

-- a text in so much room: of a longer one its beginning, and two points
abbrev pub cut_text : ℕ → List ℕ → List ℕ
cut_text room text =
    if nat_lt room (length text) then escape (take (room - 2) text) ++ codes ".." else escape text

-- one element each -------------------------------------------------------------------------------------

unfoldable pub size_text : ℕ → ℕ → ℕ → ℕ → List ℕ
size_text width height events columns =
    codes "<svg xmlns=\"http://www.w3.org/2000/svg\" width=\"" ++ decimal width ++ codes "\" height=\""
    ++ decimal height ++ codes "\" viewBox=\"-6 0 " ++ decimal width ++ codes " " ++ decimal height
    ++ codes "\" role=\"img\" aria-labelledby=\"title desc\">\n<title id=\"title\">A history: events "
    ++ decimal events ++ codes ", processes " ++ decimal columns ++ codes "</title>\n"

-- the begin of a row, whose stamp is at this height
unfoldable pub row_text : ℕ → List ℕ → List ℕ
row_text y stamp = codes "<text y=\"" ++ decimal y ++ codes "\">" ++ stamp ++ codes "<title>"

-- the end of a row that has several events, with the stamp of the last one
unfoldable pub last_stamp_text : List ℕ → List ℕ
last_stamp_text stamp = codes "</title><tspan x=\"0\" dy=\"12\">-" ++ stamp ++ codes "</tspan></text>\n"

unfoldable pub stripe_text : ℕ → ℕ → ℕ → List ℕ
stripe_text parity x height =
    codes "<rect class=\"band" ++ decimal parity ++ codes "\" x=\"" ++ decimal x
    ++ codes "\" y=\"76\" width=\"180\" height=\"" ++ decimal height ++ codes "\"/>\n"

unfoldable pub desk_text : ℕ → ℕ → List ℕ
desk_text x desk =
    codes "<text class=\"desk\" x=\"" ++ decimal x ++ codes "\" y=\"92\">desk " ++ decimal desk ++ codes "</text>\n"

unfoldable pub before_text : ℕ → ℕ → List ℕ
before_text x end = codes "<path class=\"before\" d=\"M" ++ decimal x ++ codes " 132V" ++ decimal end ++ codes "\"/>\n"

-- a name or a pid
unfoldable pub name_text : Point → List ℕ → List ℕ
name_text at name = codes "<text class=\"n\" " ++ at_text at ++ codes ">" ++ name ++ codes "</text>\n"

-- a name that is cut, and the whole one as its title
unfoldable pub cut_name_text : Point → List ℕ → List ℕ → List ℕ
cut_name_text at whole name =
    codes "<text class=\"n\" " ++ at_text at ++ codes "><title>" ++ whole ++ codes "</title>" ++ name
    ++ codes "</text>\n"

unfoldable pub alive_text : Point → ℕ → List ℕ
alive_text from to = codes "<path class=\"life\" d=\"M" ++ point_text from ++ codes "V" ++ decimal to ++ codes "\"/>\n"

-- the begin of an arrow
unfoldable pub arrow_begin_text : Stroke → List ℕ → Point → List ℕ
arrow_begin_text stroke flight from =
    codes "<path class=\"" ++ stroke_text stroke ++ flight ++ codes "\" d=\"M" ++ point_text from

unfoldable pub straight_text : Point → List ℕ
straight_text to = codes "L" ++ point_text to ++ codes "\"/>\n"

unfoldable pub curve_text : Point × Point → Point → List ℕ
curve_text bent to =
    codes "C" ++ point_text bent.0 ++ codes " " ++ point_text bent.1 ++ codes " " ++ point_text to ++ codes "\"/>\n"

unfoldable pub level_text : List ℕ → Point → ℕ → List ℕ
level_text class from to =
    codes "<path class=\"" ++ class ++ codes "\" d=\"M" ++ point_text from ++ codes "H" ++ decimal to ++ codes "\"/>\n"

-- the shape of that name, as the style has it
unfoldable pub shape_text : List ℕ → Point → List ℕ
shape_text name at = codes "<use href=\"#" ++ name ++ codes "\" " ++ at_text at ++ codes "/>\n"

-- a text in the colour of a stroke, right of its point, left of it, or over it
unfoldable pub label_text : Stroke → List ℕ → Point → List ℕ → List ℕ
label_text stroke side at said =
    codes "<text class=\"" ++ stroke_text stroke ++ side ++ codes "\" " ++ at_text at ++ codes ">" ++ said
    ++ codes "</text>\n"

-- a text in the colour of the page's own texts
unfoldable pub plain_text : Point → List ℕ → List ℕ
plain_text at said = codes "<text class=\"k\" " ++ at_text at ++ codes ">" ++ said ++ codes "</text>\n"

-- the parts --------------------------------------------------------------------------------------------

abbrev pub page_head : Page → List ℕ
page_head p = size_text (width_of p) (height_of p) p.events p.columns ++ STYLE.now

-- a stamp and its desk
abbrev pub stamp_text : Stamped → List ℕ
stamp_text s = decimal s.stamp ++ codes "@" ++ decimal s.desk

-- the height of the stamp of a row's first event: where it is the only one, in the middle
abbrev pub first_height : ℕ → Bool → ℕ
first_height row true = capped (y_of row + 4)
first_height row false = above (y_of row) 2

-- the begin of a row, whose title has the lines of its events; before a further one of these a line feed
abbrev pub opening_text : ℕ → List ℕ → Bool → Bool → List ℕ
opening_text row stamp true last = row_text (first_height row last) stamp
opening_text row stamp false last = codes "\n"

-- the end of a row, behind the last line, with the stamp of the last event, which its first one has already
abbrev pub closing_text : List ℕ → Bool → Bool → List ℕ
closing_text stamp true true = codes "</title></text>\n"
closing_text stamp false true = last_stamp_text stamp
closing_text stamp first false = []

-- the line of an event in the title of its row, of which it may be the first and the last
abbrev pub line_text : ℕ → Stamped → Bool → Bool → List ℕ
line_text row s first last =
    opening_text row (stamp_text s) first last ++ escape (stamped_text s) ++ closing_text (stamp_text s) first last

-- a name at its place; a long one is cut
abbrev pub called_text : Point → List ℕ → List ℕ
called_text at name =
    if nat_lt 26 (length name) then cut_name_text at (escape name) (cut_text 26 name) else name_text at (escape name)

abbrev pub head_place : ℕ → ℕ → Point
head_place k y = point (x_of k) y

-- the head of a column above the first row: the name of the process, if it has one, and below it the pid
abbrev pub named_head_text : ℕ → List ℕ → List ℕ → List ℕ
named_head_text k name pid = called_text (head_place k 112) name ++ name_text (head_place k 126) (escape pid)

abbrev pub first_head_text : ℕ → List ℕ → List ℕ → List ℕ
first_head_text k name pid =
    if length name == 0 then name_text (head_place k 126) (escape pid) else named_head_text k name pid

-- the head of a column again, above a later row: the name of the process, or its pid if it has none
abbrev pub head_again_text : ℕ → ℕ → List ℕ → List ℕ → List ℕ
head_again_text row k name pid =
    called_text (head_place k (above (y_of row) 30)) (if length name == 0 then pid else name)

abbrev pub head_above_text : ℕ → ℕ → List ℕ → List ℕ → List ℕ
head_above_text row k name pid = if row == 0 then first_head_text k name pid else head_again_text row k name pid

-- the ground of a column, darker behind every other desk
abbrev pub ground_text : Page → ℕ → ℕ → List ℕ
ground_text p k desk = stripe_text (desk % 2) (above (x_of k) 90) (above (y_of p.rows) 76)

abbrev pub life_text : Page → ℕ → ℕ → Option ℕ → List ℕ
life_text p k born ended = alive_text (spot k born) (row_or_end p ended)

-- a letter that came has a full head, one in flight an open one
abbrev pub flight_text : Option ℕ → List ℕ
flight_text None = codes " f"
flight_text (Some row) = []

-- the way of an arrow, from its begin on: straight to another column, or around to its own
abbrev pub way_text : Point → Point → List ℕ
way_text from to = if from.x == to.x then curve_text (bend from to) to else straight_text to

abbrev pub arrow_text : Stroke → List ℕ → Point → Point → List ℕ
arrow_text stroke flight from to = arrow_begin_text stroke flight from ++ way_text from to

-- where the arrow of a letter ends
abbrev pub tip : Letter → Point
tip l = spot l.arrow.to l.tip

abbrev pub drawn_letter_text : Letter → List ℕ
drawn_letter_text l =
    arrow_text (stroke_of l.arrow.signal) (flight_text l.arrow.came) (spot l.column l.arrow.sent) (tip l)

-- what a process owes at its end or answers: several letters may go out in one row
abbrev pub is_owed : Signal → Bool
is_owed (signal.Message body) = false
is_owed (signal.Link i) = false
is_owed (signal.Unlink ids) = false
is_owed (signal.Exit r) = false
is_owed (signal.LinkExit ids r) = true
is_owed (signal.Monitor m) = false
is_owed (signal.Demonitor m) = true
is_owed (signal.Down m r) = true
is_owed (signal.AliveAsk m) = false
is_owed (signal.AliveSay m x) = true

-- the letter comes in the row in which it was sent
abbrev pub is_level : Arrow → Bool
is_level a = is_at_row a.sent a.came

-- the label of a letter stands at its tip: there it has the row alone, and at its sender others may begin
abbrev pub is_at_tip : Letter → Bool
is_at_tip l = is_owed l.arrow.signal && not (is_level l.arrow)

-- left of a place, or right of it
abbrev pub beside : ℕ → Bool → ℕ → ℕ
beside x true by = above x by
beside x false by = capped (x + by)

-- how far from the tip: the reason of a process that the letter ends stands there
abbrev pub from_tip : Bool → ℕ
from_tip true = 58
from_tip false = 8

-- below the arrow, on its side of the receiver
abbrev pub tip_place : Letter → Point
tip_place l =
    point (beside (x_of l.arrow.to) (nat_lt l.column l.arrow.to) (from_tip l.ends)) (capped (y_of l.tip + 13))

-- above the arrow, on its side of the sender; behind one that goes around within a row
abbrev pub sent_place : Letter → Point
sent_place l =
    if is_level l.arrow && (l.column == l.arrow.to) then point (capped (x_of l.column + 38)) (capped (y_of l.arrow.sent + 4))
    else point (beside (x_of l.column) (nat_lt l.arrow.to l.column) 12) (above (y_of l.arrow.sent) 4)

abbrev pub side_text : Bool → List ℕ
side_text true = codes " e"
side_text false = []

-- how many columns these are from each other
abbrev pub distance : ℕ → ℕ → ℕ
distance a b = if nat_lt a b then b - a else a - b

-- how many characters a label has room for, if the letter goes so far: within a row up to the head of its arrow, and
-- else up to the edge of the farther column
abbrev pub far_room : Letter → ℕ → ℕ
far_room l far =
    if is_level l.arrow then capped (30 * far) - 6
    else if is_at_tip l && l.ends then capped (30 * far + 4) else capped (30 * far + 12)

abbrev pub label_room : Letter → ℕ
label_room l = if l.column == l.arrow.to then 24 else far_room l (distance l.column l.arrow.to)

-- a label at the tip, or at the sender
abbrev pub letter_label_text : Letter → List ℕ → List ℕ
letter_label_text l said =
    if is_at_tip l then label_text (stroke_of l.arrow.signal) (side_text (nat_lt l.column l.arrow.to)) (tip_place l) said
    else label_text (stroke_of l.arrow.signal) (side_text (nat_lt l.arrow.to l.column)) (sent_place l) said

-- what a letter says
abbrev pub saying_text : Letter → List ℕ
saying_text l = letter_label_text l (cut_text (label_room l) (signal_text l.arrow.signal))

abbrev pub bearing_class : Bool → List ℕ
bearing_class true = codes "linked"
bearing_class false = codes "before"

abbrev pub bearing_label : Pid → Bool → List ℕ
bearing_label by true = codes "by " ++ pid_text by ++ codes ", linked"
bearing_label by false = codes "by " ++ pid_text by

abbrev pub bearing_place : ℕ → ℕ → Point
bearing_place row child = point (x_of child) (above (y_of row) 8)

-- the stroke from parent to child, and above the child the parent: several may be born in one row
abbrev pub said_bearing_text : ℕ → ℕ → ℕ → Bool → List ℕ → List ℕ
said_bearing_text row parent child linked said =
    level_text (bearing_class linked) (spot parent row) (x_of child)
    ++ label_text stroke.Link (codes " c") (bearing_place row child) said

abbrev pub born_text : ℕ → ℕ → ℕ → Pid → Bool → List ℕ
born_text row parent child by linked =
    said_bearing_text row parent child linked (cut_text 28 (bearing_label by linked))

abbrev pub birth_text : ℕ → ℕ → List ℕ
birth_text row k = shape_text (codes "birth") (spot k row)

abbrev pub taking_text : ℕ → ℕ → List ℕ
taking_text row k = shape_text (codes "t") (spot k row)

-- right of the mark of an event that has its row alone
abbrev pub mark_place : ℕ → ℕ → Point
mark_place row k = point (capped (x_of k + 10)) (capped (y_of row + 4))

abbrev pub trap_shape : Bool → List ℕ
trap_shape true = codes "traps"
trap_shape false = codes "free"

abbrev pub trap_text : Bool → List ℕ
trap_text true = codes "traps exits"
trap_text false = codes "traps no more"

abbrev pub trapping_text : ℕ → ℕ → Bool → List ℕ
trapping_text row k on =
    shape_text (trap_shape on) (spot k row) ++ plain_text (mark_place row k) (trap_text on)

abbrev pub said_refusal_text : ℕ → ℕ → List ℕ → List ℕ
said_refusal_text row k said =
    shape_text (codes "refused") (spot k row) ++ label_text stroke.Exit [] (mark_place row k) said

abbrev pub refusal_text : ℕ → ℕ → Pid → List ℕ
refusal_text row k to = said_refusal_text row k (escape (codes "refused " ++ pid_text to))

abbrev pub end_place : ℕ → ℕ → Point
end_place row k = point (x_of k) (capped (y_of row + 15))

-- the reason stands below the cross
abbrev pub said_end_text : ℕ → ℕ → List ℕ → List ℕ
said_end_text row k said =
    shape_text (codes "end") (spot k row)
    ++ label_text stroke.Exit (codes " c") (end_place row k) said

abbrev pub end_text : ℕ → ℕ → Reason → List ℕ
end_text row k r = said_end_text row k (escape (reason_text r))

abbrev pub mark_text : ℕ → mark.Mark → List ℕ
mark_text row (Bearing parent child by linked) = born_text row parent child by linked
mark_text row (Birth k) = birth_text row k
mark_text row (Taking k) = taking_text row k
mark_text row (Trapping k on) = trapping_text row k on
mark_text row (Refusal k to) = refusal_text row k to

-- a part, where the processes of the columns have these names
abbrev pub part_text : Page → List (List ℕ) → Part → List ℕ
part_text p names (Ground k desk) = ground_text p k desk
part_text p names (Desk k desk) = desk_text (above (x_of k) 82) desk
part_text p names (Column k) = before_text (x_of k) (y_of p.rows)
part_text p names (Life k born ended) = life_text p k born ended
part_text p names (Saying l) = saying_text l
part_text p names (Flight l) = drawn_letter_text l
part_text p names (Mark row m) = mark_text row m
part_text p names (End row k r) = end_text row k r
part_text p names (Name row k pid) = head_above_text row k (slice_index_or names k []) (pid_text pid)
part_text p names (Line row s first last) = line_text row s first last
