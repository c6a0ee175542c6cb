-- **Definition**: export is a normal form.
-- The text of games is read back as these games with their defaults filled in, and exporting it
-- again changes nothing.
-- Letters: p is the profile, g a game, gs and hs are games, r is a call's result, t its totals.
use Rattle.std.specs.Prelude.{false, ◌≡◌, ◌↔◌, ◌⊎◌, ℕ, ◌+◌, ◌≤◌, ◌^◌, List, length, map, sum, Option, None, Some, Result, Ok, Err}
use Rattle.std.specs.List.{AllByRecursion}
use Rattle.std.specs.Io.KnownBytes.{Appends}
use Rattle.pgn_lexer.specs.TokensOf.{tokens_of}
use Rattle.pgn_game.specs.declared.reason.Fault.{Fault}
use Rattle.pgn_game.specs.declared.reason.Reason.TheVariants.{ReadFault, WriteFault}
use Rattle.pgn_game.specs.declared.conversion.Totals.{Totals}
use Rattle.pgn_game.specs.games.Profile.{Profile}
use Rattle.pgn_game.specs.games.Game.{Game}
use Rattle.pgn_game.specs.games.Levels.{plies_of}
use Rattle.pgn_game.specs.export.Text.{text_of}
use Rattle.pgn_game.specs.games.Progress.{Counted, read, output, verdict, totals}
use Rattle.pgn_game.specs.games.Spells.{Spells}
use Rattle.pgn_game.specs.public.Conversion.{AfterConversion, AfterSlice}
use Rattle.pgn_game.specs.laws.Filled.{exported_pairs, filled}

-- The tag section that is written has no more lines than a game may have pairs.
abbrev pub TagSectionFits : Profile → Game → Type 0
TagSectionFits p g = length (exported_pairs p.mode g) ≤ p.tags

-- Some text spells these games, so they are what a conversion of that text reads; and there is room
-- for the tag lines of each.
pub record AreExportable (p : Profile) (gs : List Game) : Type 0 where
  pub source : List ℕ
  pub spelled : Spells p (tokens_of source) gs
  pub room : AllByRecursion (TagSectionFits p) gs

-- The export text of games spells exactly these games with their defaults filled in, in the reduced
-- format cut down to what is written.
abbrev pub TextSpells : Type 0
TextSpells = (p : Profile) (gs : List Game) → AreExportable p gs
    → Spells p (tokens_of (text_of p gs)) (map (filled p.mode) gs)

-- Games have the same export text exactly if they are the same so filled in.
abbrev pub SameText : Type 0
SameText = (p : Profile) (gs hs : List Game) → AreExportable p gs → AreExportable p hs
    → (text_of p gs ≡ text_of p hs) ↔ (map (filled p.mode) gs ≡ map (filled p.mode) hs)

-- how many games, and how many moves outside variations they have together
abbrev pub counted : List Game → Counted
counted gs = record { games = length gs; plies = sum (map plies_of gs) }

-- Converting an export text writes the same text, without a fault, and counts as many games and
-- moves.
abbrev pub FixedPoint : Type 0
FixedPoint = (p : Profile) (gs : List Game) → AreExportable p gs
    → (output p (text_of p gs) ≡ text_of p gs) × (verdict p (text_of p gs) ≡ totals (counted gs))

-- The totals are the counts of these games, and their export text was written.
abbrev pub IsWrittenAgain : Profile → List Game → Totals → Option (List ℕ) → Option (List ℕ)
    → Type 0
IsWrittenAgain p gs t before after =
    (t.games ≡ length gs) × (t.plies ≡ sum (map plies_of gs)) × Appends before after (text_of p gs)

-- A conversion of the export text of games, with the numbers and the mode that it was made with,
-- writes the same text. It fails only if a write fails.
abbrev pub SliceIsKept : Profile → List Game → Result Totals Fault → Option (List ℕ)
    → Option (List ℕ) → Type 0
SliceIsKept p gs (Ok t) before after = IsWrittenAgain p gs t before after
SliceIsKept p gs (Err f) before after = f.reason ≡ WriteFault

-- the same, from a source: it may also fail if a read fails
abbrev pub SourceIsKept : Profile → List Game → Result Totals Fault → Option (List ℕ)
    → Option (List ℕ) → Type 0
SourceIsKept p gs (Ok t) before after = IsWrittenAgain p gs t before after
SourceIsKept p gs (Err f) before after = (f.reason ≡ ReadFault) ⊎ (f.reason ≡ WriteFault)

-- What follows from the contract of `convert_slice` for an export text of at most 2^62 bytes.
abbrev pub ExportIsKept : Type 0
ExportIsKept = (p : Profile) (gs : List Game) (r : Result Totals Fault)
    (before after : Option (List ℕ)) → AreExportable p gs → length (text_of p gs) ≤ 2 ^ 62
    → AfterSlice false p (text_of p gs) r before after → SliceIsKept p gs r before after

-- What follows from the contract of `convert` if the source still has such a text to give.
abbrev pub ExportIsKeptOfSource : Type 0
ExportIsKeptOfSource = (p : Profile) (gs : List Game) (r : Result Totals Fault)
    (left_old left_new before after : Option (List ℕ))
    → AreExportable p gs → length (text_of p gs) ≤ 2 ^ 62 → left_old ≡ Some (text_of p gs)
    → AfterConversion false p left_old left_new r before after → SourceIsKept p gs r before after

-- The same, said of inputs.

-- the games of an input
abbrev pub games_in : Profile → List ℕ → List Game
games_in p s = (read p (tokens_of s)).progress.games

-- An input that is converted without a fault, and with room for the tag lines of each game.
pub record IsExportable (p : Profile) (s : List ℕ) : Type 0 where
  pub no_fault : (read p (tokens_of s)).fault ≡ None
  pub room : AllByRecursion (TagSectionFits p) (games_in p s)

-- The output for such an input is converted to itself, and ends as the input did.
abbrev pub ExportingTwice : Type 0
ExportingTwice = (p : Profile) (s : List ℕ) → IsExportable p s
    → (output p (output p s) ≡ output p s) × (verdict p (output p s) ≡ verdict p s)

-- Two such inputs have the same output exactly if their games are the same, with their defaults
-- filled in.
abbrev pub SameOutput : Type 0
SameOutput = (p : Profile) (s t : List ℕ) → IsExportable p s → IsExportable p t
    → (output p s ≡ output p t)
    ↔ (map (filled p.mode) (games_in p s) ≡ map (filled p.mode) (games_in p t))

-- There is room for the tag lines of a game with eight pairs fewer than a game may have: seven
-- lines are the roster's, and one may be a SetUp.
abbrev pub FewPairsHaveRoom : Type 0
FewPairsHaveRoom = (p : Profile) (g : Game) → length g.pairs + 8 ≤ p.tags → TagSectionFits p g
