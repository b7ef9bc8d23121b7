-- The generated script of a size: its lines, and the numbers that are drawn for them.
use Rattle.std.specs.Prelude.{ℕ, zero, suc, ◌+◌, ◌*◌, ◌/◌, ◌%◌, ◌==◌, ◌++◌, List, [], ◌∷◌, codes, if◌then◌else◌}
use Rattle.std.specs.Fmt.{decimal}
use Rattle.arc_script.specs.Spelling.{line, state_word}

-- ---- what is drawn

-- the number that is drawn behind another one
unfoldable pub next_drawn : ℕ → ℕ
next_drawn number = (number * 1103515245 + 12345) % 2147483648

-- the number at a place of a script of this size: the first is drawn behind the size itself
unfoldable pub drawn : ℕ → ℕ → ℕ
drawn size zero = size
drawn size (suc place) = next_drawn (drawn size place)

-- what the line at a place is read off: the higher half of its number
abbrev pub draw_at : ℕ → ℕ → ℕ
draw_at size place = drawn size place / 65536

-- ---- what a draw says

-- the endpoint of a call, 0 to 4
abbrev pub drawn_endpoint : ℕ → ℕ
drawn_endpoint draw = draw % 5

-- the control of a call, 1 to 8
abbrev pub drawn_control : ℕ → ℕ
drawn_control draw = draw / 5 % 8 + 1

-- the word for the state that is set
abbrev pub drawn_state : ℕ → List ℕ
drawn_state draw = state_word (draw / 40 % 2 == 0)

-- which line it is: 0 reads a state, 1 withholds what a peer is sent next, 2 to 7 set a state
abbrev pub drawn_kind : ℕ → ℕ
drawn_kind draw = draw / 80 % 8

-- the peer from which something is withheld, 0 to 4
abbrev pub drawn_peer : ℕ → ℕ
drawn_peer draw = draw / 640 % 5

-- the time of the line at a place, in milliseconds
abbrev pub time_at : ℕ → ℕ
time_at place = 1000 * place

-- ---- lines

-- `get E T 0 c`
unfoldable pub get_line : ℕ → ℕ → List ℕ
get_line place draw =
    line (codes "get" ∷ decimal (drawn_endpoint draw) ∷ decimal (time_at place) ∷ codes "0" ∷ decimal (drawn_control draw) ∷ [])

-- `net P once l`
unfoldable pub withhold_line : ℕ → List ℕ
withhold_line draw = line (codes "net" ∷ decimal (drawn_peer draw) ∷ codes "once" ∷ codes "l" ∷ [])

-- `set E T 0 c state`
unfoldable pub set_line : ℕ → ℕ → List ℕ
set_line place draw =
    line (codes "set" ∷ decimal (drawn_endpoint draw) ∷ decimal (time_at place) ∷ codes "0" ∷ decimal (drawn_control draw) ∷ drawn_state draw ∷ [])

-- the line at a place that a draw says
unfoldable pub drawn_line : ℕ → ℕ → List ℕ
drawn_line place draw =
    if drawn_kind draw == 0 then get_line place draw
    else if drawn_kind draw == 1 then withhold_line draw
    else set_line place draw

-- the drawn lines of a script of this size, up to a place
unfoldable pub drawn_lines : ℕ → ℕ → List (List ℕ)
drawn_lines size zero = []
drawn_lines size (suc place) = drawn_lines size place ++ drawn_line (suc place) (draw_at size (suc place)) ∷ []

-- eight controls, an assertion over the first four, and a gate by two of the others over two
abbrev pub first_lines : List (List ℕ)
first_lines =
    codes "new 0 0 0 c1" ∷ codes "new 0 0 0 c2" ∷ codes "new 0 0 0 c3" ∷ codes "new 0 0 0 c4"
    ∷ codes "new 0 0 0 c5" ∷ codes "new 0 0 0 c6" ∷ codes "new 0 0 0 c7" ∷ codes "new 0 0 0 c8"
    ∷ codes "assert 0 0 0 r1 ATLEAST:1 0 1,2,3,4" ∷ codes "gate 0 0 0 r2 OR 1000 5,6 7,8" ∷ []

-- the lengths of the lists, and the summary
abbrev pub last_lines : List (List ℕ)
last_lines = codes "lists" ∷ codes "sum" ∷ []

-- the lines of the script of a size
abbrev pub script_lines : ℕ → List (List ℕ)
script_lines size = first_lines ++ drawn_lines size size ++ last_lines

-- ---- the text

-- lines, each of which ends in LF
abbrev pub ended : List (List ℕ) → List ℕ
ended [] = []
ended (line ∷ lines) = line ++ codes "\n" ++ ended lines

-- the script of a size
unfoldable pub script_text : ℕ → List ℕ
script_text size = ended (script_lines size)
