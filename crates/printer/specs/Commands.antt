-- The whole job at once, as a list of commands, of which only the last may be unfinished.
use Rattle.std.specs.Prelude.{ℕ, zero, suc, ◌+◌, ◌-◌, ◌%◌, Bool, true, false, cond, ◌&&◌, List, [], ◌∷◌, eqb, drop, length, take}
use Rattle.sheet.specs.Edition.{Edition}
use Rattle.glyph.specs.Words.{high_first}
use Rattle.printer.specs.declared.Pending.TheVariants.{Escape, Tabs, Reset, Select, SelectLow, CountHigh, CountLow, AddressHigh, AddressLow, Payload}
use Rattle.printer.specs.declared.Pending.TheVariants.{Bracket}
use Rattle.printer.specs.Alone.{alone}
use Rattle.printer.specs.Brackets.{bracket, continues, no_settings, settings}
use Rattle.printer.specs.Downloads.{download, stage, total}
use Rattle.printer.specs.Escapes.{clear_tabs, escape, reset, select, tab_item}
use Rattle.printer.specs.Machine.{Machine, with_job, with_pending, with_staging}
use Rattle.printer.specs.Plotting.{plot_escape}
use Rattle.printer.specs.Steps.{Outcome, silent, tell_step, then}

-- a whole command
pub data Command : Type 0 where
  byte : ℕ → Command  -- one byte
  escaped : ℕ → Command  -- ESC and a byte
  tab_list : List ℕ → Command  -- ESC F, the items, 00
  resetting : ℕ → Command  -- ESC c and a byte
  selecting : ℕ → ℕ → Command  -- ESC N and two bytes
  loading : ℕ → ℕ → List ℕ → ℕ → Command  -- ESC Y, count, address, payload, checksum
  bracketed : List ℕ → ℕ → Command  -- ESC [, digits and semicolons, the last byte

-- the first command of some bytes: whole, with the bytes that follow it, or unfinished
pub data Cut : Type 0 where
  whole : Command → List ℕ → Cut
  unfinished : Cut

-- the items of a tab list and the bytes after its 00, where it has one
pub data Items : Type 0 where
  listed : List ℕ → List ℕ → Items
  unended : Items

-- one item more before the others
unfoldable pub item : ℕ → Items → Items
item n (listed ns rest) = listed (n ∷ ns) rest
item n unended = unended

-- the items that some bytes begin with, up to the first 00
unfoldable pub items : List ℕ → Items
items [] = unended
items (b ∷ bs) = cond (eqb b 0) (listed [] bs) (item b (items bs))

-- F n.. 00
unfoldable pub cut_tabs : Items → Cut
cut_tabs (listed ns rest) = whole (tab_list ns) rest
cut_tabs unended = unfinished

-- the digits and semicolons of a command, its last byte and the bytes after it, where it has one
pub data Text : Type 0 where
  ending : List ℕ → ℕ → List ℕ → Text
  endless : Text

-- one byte more before the others
unfoldable pub text_before : ℕ → Text → Text
text_before b (ending bs last rest) = ending (b ∷ bs) last rest
text_before b endless = endless

-- the digits and semicolons that some bytes begin with, and the byte that ends them
unfoldable pub text : List ℕ → Text
text [] = endless
text (b ∷ bs) = cond (continues b) (text_before b (text bs)) (ending [] b bs)

-- [ and a text
unfoldable pub cut_bracket : Text → Cut
cut_bracket (ending bs last rest) = whole (bracketed bs last) rest
cut_bracket endless = unfinished

-- c and a byte
unfoldable pub cut_reset : List ℕ → Cut
cut_reset [] = unfinished
cut_reset (b ∷ rest) = whole (resetting b) rest

-- N and two bytes
unfoldable pub cut_select : List ℕ → Cut
cut_select [] = unfinished
cut_select (high ∷ []) = unfinished
cut_select (high ∷ low ∷ rest) = whole (selecting high low) rest

-- the checksum, after all of the payload
unfoldable pub cut_checksum : ℕ → ℕ → List ℕ → List ℕ → Cut
cut_checksum count address payload [] = unfinished
cut_checksum count address payload (checksum ∷ rest) = whole (loading count address payload checksum) rest

-- count (two bytes, high first), address (two), that many payload bytes, a checksum
unfoldable pub cut_download : List ℕ → Cut
cut_download [] = unfinished
cut_download (a ∷ []) = unfinished
cut_download (a ∷ b ∷ []) = unfinished
cut_download (a ∷ b ∷ c ∷ []) = unfinished
cut_download (a ∷ b ∷ c ∷ d ∷ bs) =
    let count : ℕ = high_first a b in
    cut_checksum count (high_first c d) (take count bs) (drop count bs)

-- what follows an ESC; in plot mode every such command has one byte more
unfoldable pub cut_escape : Edition → Bool → List ℕ → Cut
cut_escape e plotting [] = unfinished
cut_escape e true (b ∷ bs) = whole (escaped b) bs
cut_escape e false (b ∷ bs) =
    cond (eqb b 0x46) (cut_tabs (items bs))
    (cond (eqb b 0x63) (cut_reset bs)
    (cond (eqb b 0x59) (cut_download bs)
    (cond (eqb b 0x4e) (cut_select bs)
    (cond (eqb b 0x5b && e.brackets) (cut_bracket (text bs))
    (whole (escaped b) bs)))))

-- the first command of b and the bytes after it
unfoldable pub cut : Edition → Bool → ℕ → List ℕ → Cut
cut e plotting b bs = cond (eqb b 0x1b) (cut_escape e plotting bs) (whole (byte b) bs)

-- the items of a tab list, the first of them at a place
unfoldable pub set_tabs : Edition → List ℕ → ℕ → Machine → Outcome
set_tabs e [] place m = silent m
set_tabs e (n ∷ ns) place m = then (tell_step e (tab_item n place m)) (set_tabs e ns (place + 1))

module _ (e : Edition) (font : List ℕ) where
  -- a whole command that began at a place; the machine has its bytes counted and nothing pending
  unfoldable pub obey : Command → ℕ → Machine → Outcome
  obey (byte b) place m = tell_step e (alone e font b place m)
  obey (escaped b) place m = tell_step e (cond m.printer.head.plotting (plot_escape e b place m) (escape e b place m))
  obey (tab_list ns) place m = set_tabs e ns (place + 2) (clear_tabs m)
  obey (resetting b) place m = tell_step e (reset e b place m)
  obey (selecting high low) place m = tell_step e (select high low place m)
  obey (loading count address payload checksum) place m =
      tell_step e (download count address (total payload % 256) checksum place (with_staging (stage 0 payload m.staging) m))
  obey (bracketed bs last) place m = tell_step e (bracket e (settings bs no_settings) last place m)

  -- what a download leaves that is not whole, by the bytes after its Y: its payload is staged as far as it came
  unfoldable pub leave_download : List ℕ → ℕ → Machine → Machine
  leave_download [] place m = with_pending (CountHigh place) m
  leave_download (a ∷ []) place m = with_pending (CountLow place a) m
  leave_download (a ∷ b ∷ []) place m = with_pending (AddressHigh place (high_first a b)) m
  leave_download (a ∷ b ∷ c ∷ []) place m = with_pending (AddressLow place (high_first a b) c) m
  leave_download (a ∷ b ∷ c ∷ d ∷ bs) place m =
      with_pending (Payload place (record { count = high_first a b; address = high_first c d; taken = length bs; sum = total bs % 256 }))
      (with_staging (stage 0 bs m.staging) m)

  -- what a selection leaves that is not whole, by the bytes after its N
  unfoldable pub leave_select : List ℕ → ℕ → Machine → Machine
  leave_select [] place m = with_pending (Select place) m
  leave_select (high ∷ bs) place m = with_pending (SelectLow place high) m

  -- what an unfinished command leaves, by the bytes after its ESC, of which F, c, Y, N and [ alone can be left so: a tab list half sent has already set
  -- its items
  unfoldable pub leave : List ℕ → ℕ → Machine → Outcome
  leave [] place m = silent (with_pending (Escape place) m)
  leave (b ∷ bs) place m =
      cond (eqb b 0x46) (set_tabs e bs (place + 2) (with_pending (Tabs place) (clear_tabs m)))
      (cond (eqb b 0x63) (silent (with_pending (Reset place) m))
      (cond (eqb b 0x59) (silent (leave_download bs place m))
      (cond (eqb b 0x4e) (silent (leave_select bs place m))
      (silent (with_pending (Bracket place (settings bs no_settings)) m)))))

  -- The first command of a byte and the bytes bs after it, and `go` for the bytes after that command.
  unfoldable pub read_cut : (List ℕ → Machine → Outcome) → Cut → List ℕ → Machine → Outcome
  read_cut go (whole c rest) bs m =
      then (obey c m.printer.job (with_job (m.printer.job + (suc (length bs) - length rest)) m)) (go rest)
  read_cut go unfinished bs m = leave bs m.printer.job (with_job (m.printer.job + suc (length bs)) m)

  -- at most so many commands
  unfoldable pub read : ℕ → List ℕ → Machine → Outcome
  read zero bs m = silent m
  read (suc commands) [] m = silent m
  read (suc commands) (b ∷ bs) m = read_cut (read commands) (cut e m.printer.head.plotting b bs) bs m

  -- the whole job, read by a machine with nothing pending; it has no more commands than bytes
  unfoldable pub reading : List ℕ → Machine → Outcome
  reading job m = read (length job) job m
