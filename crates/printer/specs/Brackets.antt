-- The commands that ESC [ begins: print styles, the form's length and margins, its spacing. Document 02, #105.
use Rattle.std.specs.Prelude.{ℕ, ◌+◌, ◌-◌, ◌*◌, Bool, true, false, cond, ◌&&◌, ◌||◌, List, [], ◌∷◌, eqb, leb, ltb, None, Option, Some}
use Rattle.sheet.specs.declared.Form.{Form}
use Rattle.sheet.specs.declared.Pitch.{Pitch}
use Rattle.sheet.specs.declared.Pitch.TheVariants.{Normal, Compressed}
use Rattle.sheet.specs.Edition.{Edition}
use Rattle.sheet.specs.Form.{line, lines_allowed, margins_allowed, top_row}
use Rattle.printer.specs.declared.Fault.TheVariants.{FormSetting, UnknownCommand, WrongBytes}
use Rattle.printer.specs.declared.Settings.{Settings}
use Rattle.printer.specs.Escapes.{repitched, set_elongated, set_pitch}
use Rattle.printer.specs.Machine.{Machine, fresh_head, with_form, with_head, with_tabs}
use Rattle.printer.specs.Steps.{Step, finished, noted}
use Rattle.printer.specs.Tabs.{tabs_through}

-- a digit or a semicolon, with which the command goes on; it ends at its first byte that is neither
unfoldable pub continues : ℕ → Bool
continues b = (leb 0x30 b && leb b 0x39) || eqb b 0x3b

-- nothing given yet
abbrev pub no_settings : Settings
no_settings = record { first = None; second = None; third = None; semicolons = 0 }

-- the largest number that is kept: all larger ones count as it, which no command takes
abbrev pub most_kept : ℕ
most_kept = 9999

abbrev pub capped : ℕ → ℕ
capped n = cond (ltb n most_kept) n most_kept

-- a decimal number with one digit more
unfoldable pub with_digit : ℕ → Option ℕ → Option ℕ
with_digit d None = Some d
with_digit d (Some n) = Some (capped (10 * n + d))

-- a digit belongs to the number that the semicolons before it tell; behind a third it is read over
unfoldable pub digit_read : ℕ → Settings → Settings
digit_read d s =
    cond (eqb s.semicolons 0) (record { first = with_digit d s.first; second = s.second; third = s.third; semicolons = s.semicolons })
    (cond (eqb s.semicolons 1) (record { first = s.first; second = with_digit d s.second; third = s.third; semicolons = s.semicolons })
    (cond (eqb s.semicolons 2) (record { first = s.first; second = s.second; third = with_digit d s.third; semicolons = s.semicolons })
    s))

-- three semicolons are too many, and more count as three
abbrev pub semicolon_read : Settings → Settings
semicolon_read s = record { first = s.first; second = s.second; third = s.third; semicolons = cond (ltb s.semicolons 3) (s.semicolons + 1) 3 }

-- a digit or a semicolon
unfoldable pub setting_byte : ℕ → Settings → Settings
setting_byte b s = cond (eqb b 0x3b) (semicolon_read s) (digit_read (b - 0x30) s)

-- all of some
unfoldable pub settings : List ℕ → Settings → Settings
settings [] s = s
settings (b ∷ bs) s = settings bs (setting_byte b s)

-- the number of a command that takes one, and no semicolon
unfoldable pub only : Settings → Option ℕ
only s = cond (eqb s.semicolons 0) s.first None

-- an omitted number keeps its setting
abbrev pub or_kept : Option ℕ → ℕ → ℕ
or_kept None n = n
or_kept (Some k) n = k

-- in place: a fresh line at the top margin's first row
unfoldable pub at_top : Machine → Bool
at_top m = m.printer.head.fresh && eqb m.printer.head.row.0 (top_row m.printer.form).0

-- Another form: it starts at its own line N2, and tabs past its length go. The line in progress, which is fresh, is not struck.
unfoldable pub reformed : Form → Machine → Machine
reformed f m = with_head (fresh_head (top_row f)) (with_tabs (tabs_through f.lines m.printer.tabs) (with_form f m))

-- the page is finished and one of the new form is due; a bad form, or one out of place: note 43
unfoldable pub reform : Bool → Form → ℕ → Machine → Step
reform allowed f place m = cond (allowed && at_top m) (finished (reformed f m)) (noted FormSetting place m)

-- length, top and bottom margin as given
abbrev pub resized : Settings → Form → Form
resized s f =
    record {
      lines = or_kept s.first f.lines;
      spacing = f.spacing;
      top = line (or_kept s.second f.top.0);
      bottom = line (or_kept s.third f.bottom.0);
    }

abbrev pub respaced : ℕ → Form → Form
respaced spacing f = record { lines = f.lines; spacing = spacing; top = f.top; bottom = f.bottom }

module _ (e : Edition) where
  -- a print style: pitch and elongation
  abbrev pub restyled : Pitch → Bool → ℕ → Machine → Step
  restyled pitch elongated place m = repitched e place m (set_elongated elongated (set_pitch pitch m))

  -- v w: the styles 0, 2, 4 and 6; any other, or none: note 46
  unfoldable pub style : Option ℕ → ℕ → Machine → Step
  style None place m = noted WrongBytes place m
  style (Some v) place m =
      cond (eqb v 0) (restyled Normal true place m)
      (cond (eqb v 2) (restyled Compressed true place m)
      (cond (eqb v 4) (restyled Normal false place m)
      (cond (eqb v 6) (restyled Compressed false place m)
      (noted WrongBytes place m))))

  -- N1;N2;N3 r: a form of 1 ≤ N2 ≤ N3 ≤ L, with no third semicolon
  unfoldable pub resize : Settings → ℕ → Machine → Step
  resize s place m =
      let f : Form = resized s m.printer.form in
      reform (ltb s.semicolons 3 && lines_allowed e f.lines && margins_allowed f) f place m

  -- 1 z, 2 z: 6 or 8 lines an inch; any other, or none: note 46
  unfoldable pub respace : Option ℕ → ℕ → Machine → Step
  respace None place m = noted WrongBytes place m
  respace (Some v) place m =
      cond (eqb v 1) (reform true (respaced 6 m.printer.form) place m)
      (cond (eqb v 2) (reform true (respaced 8 m.printer.form) place m)
      (noted WrongBytes place m))

  -- the whole command, by its last byte; another than w, r and z: note 42
  unfoldable pub bracket : Settings → ℕ → ℕ → Machine → Step
  bracket s last place m =
      cond (eqb last 0x77) (style (only s) place m)
      (cond (eqb last 0x72) (resize s place m)
      (cond (eqb last 0x7a) (respace (only s) place m)
      (noted UnknownCommand place m)))
