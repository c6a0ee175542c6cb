-- Each token that is written of a game that is read fits on a line, so its movetext is on the lines
-- that its tokens have.
use Rattle.std.proofs.ByRecursion.{All-append as all_joined}
use Rattle.pgn_game.proofs.Words.{◌≡◌, ℕ, ◌<◌, ◌≤◌, Bool, List, [], ◌∷◌, ◌++◌, length, Option, Some, refl, arith, is_some, IsTrue, and_parts, false≢true, filter, list_all, unwrap_or, All, All-nil, All-cons, AllByRecursion, Move, Parts, is_position, legal, is_legal, LeavesPosition, WrittenMoveIsSymbol, ReadingIsSpelling, IsToken, lines_of, Kind, Token, IsSoundKind, Mode, Profile, Pair, Item, Game, Part, Levels, levels_after, depth, start_of, Placed, placed_from, is_main_move, written_items, number_before, tokens_at, tokens_from, tokens_out, text_of_move, play, marker_of, Next, going, whole, next, in_text, items_of, Progress, progress_with, progress_after, no_progress, read_from, tokens_of, replayed, begins_with_letter, TokensDetermineLines, TokensAreSound, IsWord, is_legal_at, plays_legally, MovesAreLegal, common_steps, rules}
use Rattle.std.proofs.lemmas.List.Elements.{All-append}
use Rattle.pgn_game.specs.games.Game as games
use Rattle.pgn_game.specs.laws.MovetextLines.{AreOnLines, GameIsOnLines, MovetextIsOnLines}
use Rattle.pgn_game.proofs.MarkerTexts.{result_marker}
use Rattle.pgn_game.proofs.stepping.OneMoreToken.{by_token}
use Rattle.pgn_game.proofs.putting.MarkerToReader.{marker_token}
use Rattle.pgn_game.proofs.putting.NumberToTokens.{number_token, glyph_token}
use Rattle.pgn_game.proofs.putting.PlayedMovesAreLegal.{HoldsNone, none_held, AddsNone, adds_none}
use Rattle.pgn_game.proofs.exporting.GameTextToGame.{start_is_position}
use Rattle.pgn_game.proofs.exporting.SpelledToSound.{marker_is_result}
use Rattle.pgn_game.proofs.exporting.MoveTextToMove.{ArePositions, last_position, earlier_positions, full_fits}

-- what is known of an item of sound tokens
abbrev IsSoundItem : Item → Type 0
IsSoundItem (games.glyph n) = n ≤ 255
IsSoundItem (games.word text) = IsWord text
IsSoundItem _ = Unit {0}

one_token : (t : List ℕ) → IsToken t → All IsToken (t ∷ [])
one_token t is = All-cons IsToken t [] is (All-nil IsToken)

short_token : (t : List ℕ) → 0 < length t → length t ≤ 7 → All IsToken (t ∷ [])
short_token t some short = one_token t (record { not_empty = some; fits = omega arith })

number_fits : (b is_black : Bool) (n : ℕ) → n ≤ 99999 → All IsToken (number_before b is_black n)
number_fits b is_black n few = search (rules, one_token, number_token, All-nil)

not_empty : (s : List ℕ) → IsTrue (begins_with_letter s) → 0 < length s
not_empty s e = search (rules, false≢true)

-- all positions of these levels are positions
abbrev LeadThroughPositions : Parts → Levels → Type 0
LeadThroughPositions start ls = ArePositions start ls.current.trail × AllByRecursion (λ l. ArePositions start l.trail) ls.around

-- the tokens of an item fit on lines
abbrev FitsOnLines : Placed → Type 0
FitsOnLines i = (b : Bool) → All IsToken (tokens_at b i.position i.item)

filtered : (is : List Placed) → AllByRecursion FitsOnLines is → AllByRecursion FitsOnLines (filter is_main_move is)
filtered [] fit = tt
filtered (i ∷ is) fit = grind (arith, filtered is fit.1)

written_fit : (mode : Mode) (is : List Placed) → AllByRecursion FitsOnLines is → AllByRecursion FitsOnLines (written_items mode is)
written_fit mode is fit = search (rules, filtered)

joined : (b : Bool) (is : List Placed) → AllByRecursion FitsOnLines is → All IsToken (tokens_from b is)
joined b [] fit = All-nil IsToken
joined b (i ∷ is) fit = All-append IsToken (tokens_at b i.position i.item) _ (fit.0 b) (joined _ is fit.1)

-- Soundness of what is read.
abbrev IsSoundPart : Part → Type 0
IsSoundPart part = HoldsNone part.stage part.items × AllByRecursion IsSoundItem part.items

pub record IsSoundGame (g : Game) : Type 0 where
  pub items : AllByRecursion IsSoundItem g.items
  pub marker : IsToken g.marker

abbrev LeadsSoundly : Next → Type 0
LeadsSoundly (going part) = IsSoundPart part
LeadsSoundly (whole g) = IsSoundGame g

no_items : (items : List Item) → items ≡ [] → AllByRecursion IsSoundItem items
no_items items e = rw e tt

leads_none : (nx : Next) → AddsNone nx → LeadsSoundly nx
leads_none nx none = search (rules, none_held, no_items)

items_sound : (part : Part) (k : Kind) → IsSoundKind k → AllByRecursion IsSoundItem (items_of part k)
items_sound part k sound = grind arith

marker_fits : (k : Kind) (marker : List ℕ) → marker_of k ≡ Some marker → IsToken marker
marker_fits k marker is = grind (arith, common_steps, result_marker, marker_is_result, marker_token)

text_sound : (part : Part) (k : Kind) → IsSoundKind k → AllByRecursion IsSoundItem part.items → LeadsSoundly (in_text part k)
text_sound part k sound h = grind (arith, common_steps, whole, going, all_joined, items_sound, marker_fits)

next_sound : (part : Part) (k : Kind) → IsSoundKind k → IsSoundPart part → LeadsSoundly (next part k)
next_sound part k sound h = grind (arith, common_steps, adds_none, text_sound, leads_none)

abbrev IsSoundProgress : Progress → Type 0
IsSoundProgress b = AllByRecursion IsSoundGame b.games × IsSoundPart b.part

with_sound : (gs : List Game) (nx : Next) → AllByRecursion IsSoundGame gs → LeadsSoundly nx → IsSoundProgress (progress_with gs nx)
with_sound gs nx h k = search (rules, all_joined)

read_sound : (p : Profile) (b : Progress) (ts : List Token) → AllByRecursion (λ t. IsSoundKind t.kind) ts → IsSoundProgress b
    → IsSoundProgress (read_from p b ts).progress
read_sound p b [] sound h = h
read_sound p b (t ∷ ts) sound h =
    by_token p b t ts (λ r. IsSoundProgress r.progress) (λ reason is. h)
    (λ is. read_sound p (progress_after b t) ts sound.1 (with_sound b.games (next _ t.kind) h.0 (next_sound _ _ sound.0 h.1)))

module _ (leaves : LeavesPosition) (is_symbol : WrittenMoveIsSymbol) (reads_fen : ReadingIsSpelling)
    (legal_moves : MovesAreLegal) (determine : TokensDetermineLines) (sound_tokens : TokensAreSound) where
  move_fits : (b : Bool) (at : Parts) (m : Move) → IsTrue (is_position at) → IsTrue (is_legal at m)
      → All IsToken (tokens_at b at (games.move m))
  unfolding text_of_move
  move_fits b at m position may =
      let symbol = is_symbol at m may in search (rules, All-append, number_fits, full_fits, short_token, not_empty)

  item_fits : (at : Parts) (deep : ℕ) (i : Item) → IsTrue (is_position at) → IsSoundItem i → IsTrue (is_legal_at at i)
      → FitsOnLines (record { position = at; depth = deep; item = i })
  item_fits at deep i position sound may b = search (rules, move_fits, one_token, glyph_token, not_empty, short_token)

  plays_on : (at : Parts) (m : Move) → IsTrue (is_position at) → IsTrue (is_legal at m) → IsTrue (is_position (play at m))
  unfolding play
  plays_on at m position may = by_answer (legal at m) refl may
    where
      by_answer : (o : Option Parts) → legal at m ≡ o → IsTrue (is_some o) → IsTrue (is_position (unwrap_or o at))
      by_answer o e is = search (rules, false≢true)

  levels_go_on : (start : Parts) (ls : Levels) (i : Item) → LeadThroughPositions start ls
      → IsTrue (is_legal_at (replayed start ls.current.trail) i) → LeadThroughPositions start (levels_after ls i)
  levels_go_on start ls i good may = search (rules, plays_on, last_position, earlier_positions)

  placed_fit : (start : Parts) (ls : Levels) (items : List Item) → LeadThroughPositions start ls → AllByRecursion IsSoundItem items
      → IsTrue (list_all (λ i. is_legal_at i.position i.item) (placed_from start ls items))
      → AllByRecursion FitsOnLines (placed_from start ls items)
  placed_fit start ls [] good sound may = tt
  placed_fit start ls (i ∷ is) good sound may =
      let both = and_parts (is_legal_at (replayed start ls.current.trail) i) _ may in (
        item_fits _ (depth ls) i (last_position start ls.current.trail good.0) sound.0 both.0,
        placed_fit start (levels_after ls i) is (levels_go_on start ls i good both.0) sound.1 both.1,
      )

  tokens_fit : (mode : Mode) (pairs : List Pair) (items : List Item) → AllByRecursion IsSoundItem items
      → IsTrue (plays_legally pairs items) → All IsToken (tokens_out mode (start_of pairs) items)
  tokens_fit mode pairs items sound may = grind (arith, common_steps, joined, written_fit, placed_fit, start_is_position)

  on_lines : (ts : List (List ℕ)) → All IsToken ts → AreOnLines ts (lines_of ts)
  on_lines ts each = record { each = each; joined = (determine ts (lines_of ts) each).1 refl }

  games_on_lines : (p : Profile) (gs : List Game) → AllByRecursion IsSoundGame gs
      → IsTrue (list_all (λ g. plays_legally g.pairs g.items) gs) → AllByRecursion (GameIsOnLines p) gs
  games_on_lines p [] sound may = tt
  games_on_lines p (g ∷ gs) sound may =
      let both = and_parts (plays_legally g.pairs g.items) _ may in (
        record {
          lines = lines_of (tokens_out p.mode (start_of g.pairs) g.items ++ g.marker ∷ []);
          on = search (rules, on_lines, All-append, tokens_fit, one_token);
          text = refl;
        },
        games_on_lines p gs sound.1 both.1,
      )

  pub movetext_is_on_lines : MovetextIsOnLines
  movetext_is_on_lines p s =
      let ts = tokens_of s in
      let sound = read_sound p no_progress ts (sound_tokens s).texts (tt, (refl, tt)) in
      let are_legal = legal_moves p ts in
      let part = (read_from p no_progress ts).progress.part in (
        games_on_lines p _ sound.0 are_legal.0,
        record {
          lines = lines_of (tokens_out p.mode (start_of part.pairs) part.items);
          on = on_lines _ (tokens_fit p.mode part.pairs part.items sound.1.1 are_legal.1);
          text = refl;
        },
      )
