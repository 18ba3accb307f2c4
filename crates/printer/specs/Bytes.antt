-- The printer byte by byte, with the half command that it remembers.
use Rattle.std.specs.Prelude.{ℕ, ◌+◌, ◌%◌, cond, ◌&&◌, List, [], ◌∷◌, eqb, ltb, set}
use Rattle.sheet.specs.Edition.{Edition}
use Rattle.glyph.specs.Words.{high_first}
use Rattle.printer.specs.declared.Load.{Load}
use Rattle.printer.specs.declared.Pending.{Pending}
use Rattle.printer.specs.declared.Pending.TheVariants.{Nothing, Escape, Tabs, Reset, Select, SelectLow, CountHigh, CountLow, AddressHigh}
use Rattle.printer.specs.declared.Pending.TheVariants.{AddressLow, Payload, Bracket}
use Rattle.printer.specs.declared.Settings.{Settings}
use Rattle.printer.specs.Alone.{alone}
use Rattle.printer.specs.Brackets.{bracket, continues, no_settings, setting_byte}
use Rattle.printer.specs.Downloads.{download}
use Rattle.printer.specs.Escapes.{clear_tabs, escape, reset, select, tab_item}
use Rattle.printer.specs.Machine.{Machine, with_job, with_pending, with_staging}
use Rattle.printer.specs.Plotting.{plot_escape}
use Rattle.printer.specs.Steps.{Outcome, Step, quiet, silent, tell_step, then}

-- a byte that ends no command: what is pending now
abbrev pub waiting : Pending → Machine → Step
waiting q m = quiet (with_pending q m)

-- nothing pending: the byte is the last of its command
abbrev pub ended : Machine → Machine
ended m = with_pending Nothing m

-- with nothing pending: 1B begins a command, any other byte is one
unfoldable pub first_byte : Edition → List ℕ → ℕ → ℕ → Machine → Step
first_byte e font b place m = cond (eqb b 0x1b) (waiting (Escape place) m) (alone e font b place m)

-- after ESC outside plot mode: F, c, Y, N and, where it can, [ begin longer commands; all tabs are cleared at F
unfoldable pub text_escape : Edition → ℕ → ℕ → Machine → Step
text_escape e b place m =
    cond (eqb b 0x46) (waiting (Tabs place) (clear_tabs m))
    (cond (eqb b 0x63) (waiting (Reset place) m)
    (cond (eqb b 0x59) (waiting (CountHigh place) m)
    (cond (eqb b 0x4e) (waiting (Select place) m)
    (cond (eqb b 0x5b && e.brackets) (waiting (Bracket place no_settings) m)
    (escape e b place (ended m))))))

-- the byte after ESC
unfoldable pub second_byte : Edition → ℕ → ℕ → Machine → Step
second_byte e b place m = cond m.printer.head.plotting (plot_escape e b place (ended m)) (text_escape e b place m)

-- a byte of a tab list: 00 ends it, any other is an item, at its own place
unfoldable pub tab_byte : ℕ → ℕ → Machine → Step
tab_byte b here m = cond (eqb b 0) (quiet (ended m)) (tab_item b here m)

-- a download with one payload byte more
abbrev pub loaded : Load → ℕ → Load
loaded l b = record { count = l.count; address = l.address; taken = l.taken + 1; sum = (l.sum + b) % 256 }

-- a payload byte, staged behind those before it where that is below 2,048; once all of the payload is there, the checksum
unfoldable pub payload_byte : Load → ℕ → ℕ → Machine → Step
payload_byte l b place m =
    cond (ltb l.taken l.count)
    (waiting (Payload place (loaded l b)) (with_staging (set m.staging l.taken b) m))
    (download l.count l.address l.sum b place (ended m))

-- a byte after ESC [: a digit or a semicolon goes on with its numbers, any other ends it
unfoldable pub bracket_byte : Edition → Settings → ℕ → ℕ → Machine → Step
bracket_byte e s b place m = cond (continues b) (waiting (Bracket place (setting_byte b s)) m) (bracket e s b place (ended m))

-- a byte that stands `here` in the job, by what is pending; the machine has the byte counted
unfoldable pub act : Edition → List ℕ → Pending → ℕ → ℕ → Machine → Step
act e font Nothing b here m = first_byte e font b here m
act e font (Escape place) b here m = second_byte e b place m
act e font (Tabs place) b here m = tab_byte b here m
act e font (Reset place) b here m = reset e b place (ended m)
act e font (Select place) b here m = waiting (SelectLow place b) m
act e font (SelectLow place high) b here m = select high b place (ended m)
act e font (CountHigh place) b here m = waiting (CountLow place b) m
act e font (CountLow place high) b here m = waiting (AddressHigh place (high_first high b)) m
act e font (AddressHigh place count) b here m = waiting (AddressLow place count b) m
act e font (AddressLow place count high) b here m = waiting (Payload place (record { count = count; address = high_first high b; taken = 0; sum = 0 })) m
act e font (Payload place load) b here m = payload_byte load b place m
act e font (Bracket place settings) b here m = bracket_byte e settings b place m

-- one byte: it is counted, then acted on; places count from 0
unfoldable pub step : Edition → List ℕ → ℕ → Machine → Step
step e font b m = act e font m.printer.pending b m.printer.job (with_job (m.printer.job + 1) m)

-- all of some bytes, one after the other
unfoldable pub run : Edition → List ℕ → List ℕ → Machine → Outcome
run e font [] m = silent m
run e font (b ∷ bs) m = then (tell_step e (step e font b m)) (run e font bs)
