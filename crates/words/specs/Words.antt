-- The words in which a caller keeps a state: the model; lines, spacing and the lines of the two margins; job, row, column; fresh, plotted, plotting,
-- compressed, elongated, underscore, downloaded, each 0 or 1; the two words of the tabs; then what is pending.
use Rattle.std.specs.Prelude.{ℕ, ◌+◌, ◌-◌, ◌≤◌, Bool, true, cond, ◌&&◌, List, [], ◌∷◌, eqb, leb, drop, get_or, length, take, None, Option, Some}
use Rattle.sheet.specs.declared.Form.{Form}
use Rattle.sheet.specs.declared.Model.{Model}
use Rattle.sheet.specs.declared.Model.TheVariants.{Lp2, Dg6215}
use Rattle.sheet.specs.declared.Pitch.{Pitch}
use Rattle.sheet.specs.declared.Pitch.TheVariants.{Normal, Compressed}
use Rattle.sheet.specs.Form.{line, lines_through, row, rows_above}
use Rattle.printer.specs.Machine.{limit}
use Rattle.printer.specs.declared.Head.{Head}
use Rattle.printer.specs.declared.Pending.{Pending}
use Rattle.printer.specs.declared.Pending.TheVariants.{Nothing, Escape, Tabs, Reset, Select, SelectLow, CountHigh, CountLow}
use Rattle.printer.specs.declared.Pending.TheVariants.{AddressHigh, AddressLow, Payload, Bracket}
use Rattle.printer.specs.declared.Printer.{Printer}
use Rattle.printer.specs.declared.Style.{Style}

-- 1 for true, 0 for false
unfoldable pub truth : Bool → ℕ
truth b = cond b 1 0

-- 0 for an LP2, 1 for a 6215
unfoldable pub model_word : Model → ℕ
model_word Lp2 = 0
model_word Dg6215 = 1

-- 0 for normal, 1 for compressed
unfoldable pub pitch_word : Pitch → ℕ
pitch_word Normal = 0
pitch_word Compressed = 1

-- 0 for an omitted number, 1 more than the number for a given one
unfoldable pub setting_word : Option ℕ → ℕ
setting_word None = 0
setting_word (Some n) = n + 1

-- the six words of what is pending: its kind, the place of its first byte, a byte (of a number the high one, of a payload the sum, of ESC [ the semicolons),
-- count, address, payload taken (of ESC [ the three numbers); what a kind has not is 0
unfoldable pub pending_words : Pending → List ℕ
pending_words Nothing = 0 ∷ 0 ∷ 0 ∷ 0 ∷ 0 ∷ 0 ∷ []
pending_words (Escape place) = 1 ∷ place ∷ 0 ∷ 0 ∷ 0 ∷ 0 ∷ []
pending_words (Tabs place) = 2 ∷ place ∷ 0 ∷ 0 ∷ 0 ∷ 0 ∷ []
pending_words (Reset place) = 3 ∷ place ∷ 0 ∷ 0 ∷ 0 ∷ 0 ∷ []
pending_words (Select place) = 4 ∷ place ∷ 0 ∷ 0 ∷ 0 ∷ 0 ∷ []
pending_words (SelectLow place high) = 5 ∷ place ∷ high ∷ 0 ∷ 0 ∷ 0 ∷ []
pending_words (CountHigh place) = 6 ∷ place ∷ 0 ∷ 0 ∷ 0 ∷ 0 ∷ []
pending_words (CountLow place high) = 7 ∷ place ∷ high ∷ 0 ∷ 0 ∷ 0 ∷ []
pending_words (AddressHigh place count) = 8 ∷ place ∷ 0 ∷ count ∷ 0 ∷ 0 ∷ []
pending_words (AddressLow place count high) = 9 ∷ place ∷ high ∷ count ∷ 0 ∷ 0 ∷ []
pending_words (Payload place l) = 10 ∷ place ∷ l.sum ∷ l.count ∷ l.address ∷ l.taken ∷ []
pending_words (Bracket place s) =
    11 ∷ place ∷ s.semicolons ∷ setting_word s.first ∷ setting_word s.second ∷ setting_word s.third ∷ []

-- how many words a state has
abbrev pub state_size : ℕ
state_size = 23

-- a state put into words
unfoldable pub state_words : Printer → List ℕ
state_words p =
    model_word p.model
    ∷ p.form.lines
    ∷ p.form.spacing
    ∷ lines_through p.form.top
    ∷ lines_through p.form.bottom
    ∷ p.job
    ∷ rows_above p.head.row
    ∷ p.head.column
    ∷ truth p.head.fresh
    ∷ truth p.head.plotted
    ∷ truth p.head.plotting
    ∷ pitch_word p.style.pitch
    ∷ truth p.style.elongated
    ∷ truth p.style.underscore
    ∷ truth p.style.downloaded
    ∷ p.tabs.low
    ∷ p.tabs.high
    ∷ pending_words p.pending

-- none of some words is above m
unfoldable pub at_most : ℕ → List ℕ → Bool
at_most m [] = true
at_most m (w ∷ ws) = leb w m && at_most m ws

-- n words from word k on
abbrev pub part : ℕ → ℕ → List ℕ → List ℕ
part k n ws = take n (drop k ws)

-- the largest of a pending command's three numbers, by its kind: one of ESC [ is kept as 1 more than it is
unfoldable pub number_limit : ℕ → ℕ
number_limit kind = cond (eqb kind 11) 65536 65535

-- each number of a state before what is pending has its range; one that has none but the word's own is a state's whatever it is
unfoldable pub in_range_before : List ℕ → Bool
in_range_before ws = at_most 1 (part 0 1 ws) && at_most limit (part 5 1 ws) && at_most 1 (part 8 7 ws)

-- each number of a state has its range
unfoldable pub in_range : List ℕ → Bool
in_range ws =
    in_range_before ws
    && at_most 11 (part 17 1 ws)
    && at_most limit (part 18 1 ws)
    && at_most 255 (part 19 1 ws)
    && at_most (number_limit (get_or ws 17 0)) (part 20 3 ws)

-- words are a state: as many as a state has, each in range
unfoldable pub is_state : List ℕ → Bool
is_state ws = eqb (length ws) state_size && in_range ws

-- words are a state in which nothing is pending, with 0 in each word of what is
unfoldable pub at_rest : List ℕ → Bool
at_rest ws = eqb (length ws) state_size && at_most 0 (part 17 6 ws) && in_range_before ws

-- a word is a model's number
unfoldable pub is_model : ℕ → Bool
is_model w = leb w 1

unfoldable pub model_of : ℕ → Model
model_of w = cond (eqb w 1) Dg6215 Lp2

unfoldable pub pitch_of : ℕ → Pitch
pitch_of w = cond (eqb w 1) Compressed Normal

unfoldable pub setting_of : ℕ → Option ℕ
setting_of w = cond (eqb w 0) None (Some (w - 1))

-- what is pending, from its six words; a word that a kind has no use for is not read
unfoldable pub pending_of : ℕ → ℕ → ℕ → ℕ → ℕ → ℕ → Pending
pending_of kind place byte count address taken =
    cond (eqb kind 0) Nothing
    (cond (eqb kind 1) (Escape place)
    (cond (eqb kind 2) (Tabs place)
    (cond (eqb kind 3) (Reset place)
    (cond (eqb kind 4) (Select place)
    (cond (eqb kind 5) (SelectLow place byte)
    (cond (eqb kind 6) (CountHigh place)
    (cond (eqb kind 7) (CountLow place byte)
    (cond (eqb kind 8) (AddressHigh place count)
    (cond (eqb kind 9) (AddressLow place count byte)
    (cond (eqb kind 10) (Payload place (record { count = count; address = address; taken = taken; sum = byte }))
    (Bracket place (record { first = setting_of count; second = setting_of address; third = setting_of taken; semicolons = byte }))))))))))))

-- the state that words hold: its form, head and style, what is pending, all with that, and the whole
unfoldable pub form_of : List ℕ → Form
form_of ws = record { lines = get_or ws 1 0; spacing = get_or ws 2 0; top = line (get_or ws 3 0); bottom = line (get_or ws 4 0) }

unfoldable pub head_of : List ℕ → Head
head_of ws =
    let w : ℕ → ℕ = λ k. get_or ws k 0 in
    record { row = row (w 6); column = w 7; fresh = eqb (w 8) 1; plotted = eqb (w 9) 1; plotting = eqb (w 10) 1 }

unfoldable pub style_of : List ℕ → Style
style_of ws =
    let w : ℕ → ℕ = λ k. get_or ws k 0 in
    record { pitch = pitch_of (w 11); elongated = eqb (w 12) 1; underscore = eqb (w 13) 1; downloaded = eqb (w 14) 1 }

abbrev pub pending_read : List ℕ → Pending
pending_read ws = let w : ℕ → ℕ = λ k. get_or ws k 0 in pending_of (w 17) (w 18) (w 19) (w 20) (w 21) (w 22)

abbrev pub state_with : List ℕ → Pending → Printer
state_with ws pending =
    let w : ℕ → ℕ = λ k. get_or ws k 0 in
    record {
      model = model_of (w 0);
      form = form_of ws;
      job = w 5;
      pending = pending;
      head = head_of ws;
      style = style_of ws;
      tabs = record { low = w 15; high = w 16 };
    }

unfoldable pub state_of : List ℕ → Printer
state_of ws = state_with ws (pending_read ws)

-- what is pending is in range, as in every state that code can hold
abbrev pub Ranged : Pending → Type 0
Ranged Nothing = Unit {0}
Ranged (Escape place) = place ≤ limit
Ranged (Tabs place) = place ≤ limit
Ranged (Reset place) = place ≤ limit
Ranged (Select place) = place ≤ limit
Ranged (SelectLow place high) = (place ≤ limit) × (high ≤ 255)
Ranged (CountHigh place) = place ≤ limit
Ranged (CountLow place high) = (place ≤ limit) × (high ≤ 255)
Ranged (AddressHigh place count) = (place ≤ limit) × (count ≤ 65535)
Ranged (AddressLow place count high) = (place ≤ limit) × (count ≤ 65535) × (high ≤ 255)
Ranged (Payload place l) = (place ≤ limit) × (l.sum ≤ 255) × (l.count ≤ 65535) × (l.address ≤ 65535) × (l.taken ≤ 65535)
Ranged (Bracket place s) =
    (place ≤ limit)
    × (s.semicolons ≤ 255)
    × (setting_word s.first ≤ 65536)
    × (setting_word s.second ≤ 65536)
    × (setting_word s.third ≤ 65536)
