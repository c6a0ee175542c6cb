-- What a reader makes of a token, for the games of all writers beside it.
use Rattle.pgn_game.proofs.Words.{◌≡◌, ℕ, max, Bool, false, List, [], ◌∷◌, Option, None, Some, Result, Ok, Err, IsFalse, IsTrue, sym, ap, arith, Move, Parts, Kind, Reason, Stage, Part, Accepted, symbol, going, in_text, is_number, is_score, marker_of, CostsToFind, Event, Finds, IsOpen, IsOutside, JudgesBefore, JudgesInPair, JudgesOutside, Means, MovesText, Movetext, GameState, Refuses, Writer, IsWritable, after_move_at, game_at, game_by, is_begun, is_outside_the_table, items_meant, may_have_movetext, movetext_after_fen, pairs_meant, text_refusal, with_items, Plays, rules}
use Rattle.pgn_game.specs.declared.event.Event.TheVariants as events
use Rattle.pgn_game.specs.games.Game.{move}
use Rattle.pgn_game.proofs.refusals.RefusalsInMovetext.{move_free, move_leads}
use Rattle.pgn_game.proofs.stepping.PairsTriedForToken.{costs_found}
use Rattle.pgn_game.proofs.stepping.PutToAnswer.{entry_refused, move_refused, next_of}

-- Outside movetext.

-- before movetext no move was written last
before_movetext : (stage : Stage) (b : Bool) → is_begun stage ≡ false → after_move_at stage b ≡ false
before_movetext stage b before = grind arith

game_before : (w : Writer) (r : GameState) → is_begun r.stage ≡ false → game_at false w r ≡ game_by w r
game_before w r before = ap (λ (b : Bool). game_at b w r) (sym (before_movetext r.stage w.is_after_move before))

module _ {old new : GameState} {k : Kind} where
  pub pair_outside : {r : Result Accepted Reason} → is_begun old.stage ≡ false → JudgesInPair old k new r → JudgesOutside old k new (Some r)
  pair_outside {r} at judged = record {
    takes = λ w. rw (← game_before w old at, ← game_before w new judged.before) (judged.takes w);
    outside = (at, judged.before);
  }

  pub before_outside : {r : Option (Result Accepted Reason)} → is_begun old.stage ≡ false → JudgesBefore old k new r → JudgesOutside old k new r
  before_outside {r} at judged = record {
    takes = λ w. rw (← game_before w old at, ← game_before w new judged.before) (judged.takes w);
    outside = outside r;
  }
    where
      outside : (r : Option (Result Accepted Reason)) → IsOutside old.stage new.stage r
      outside r = search rules

-- the movetext of a FEN has no move
pub fen_alike : (start : Option Parts) (text : Movetext)
    → record (movetext_after_fen start text) { is_after_move = false } ≡ movetext_after_fen start (record text { is_after_move = false })
fen_alike start text = search rules

-- In movetext.

pub none_tried : (old : GameState) (text : Movetext)
    → record old { text = text } ≡ record old { text = text; most_probes = max old.most_probes 0 }
none_tried old text = search rules

pub entry_refuses : (old : GameState) (k : Kind) (reason : Reason) → marker_of k ≡ None → IsFalse (is_outside_the_table reason)
    → ((w : Writer) (part : Part) → IsOpen (game_by w old) part → text_refusal old.profile part k ≡ Some reason)
    → ((part : Part) → CostsToFind part k 0) → Refuses old k old reason
entry_refuses old k reason none inside why costs = search (rules, entry_refused)

-- a token that leaves the levels as they are
pub entry_means : (old : GameState) (k : Kind) (e : Event) → marker_of k ≡ None
    → ((part : Part) → (text_refusal old.profile part k ≡ None) × (in_text part k ≡ going (with_items part (items_meant e))))
    → ((part : Part) → CostsToFind part k 0) → pairs_meant e ≡ 0 → MovesText e old.text old.text → IsWritable old.text e → Means old k old e
entry_means old k e none says finds untried text fits = search (rules, none_tried)

-- what was found for a symbol is found in the game of a writer
finds_by : (w : Writer) {old new : GameState} {s : List ℕ} {r : Result Move Reason} {n : ℕ} → Finds old s new r n
    → Finds (game_by w old) s (game_by w new) r n
finds_by w finds = search rules

module _ (old found : GameState) (s : List ℕ) (n : ℕ) (at : IsTrue (may_have_movetext old.stage))
    (number : is_number s ≡ false) (score : is_score s ≡ false) (none : marker_of (symbol s) ≡ None) where
  pub move_refuses : (reason : Reason) → Finds old s found (Err reason) n → Refuses old (symbol s) found reason
  move_refuses reason finds = record {
    no_marker = none;
    takes = λ w o m. move_refused (game_by w old) (game_by w found) s n at number score reason o m (finds_by w finds);
  }

  move_says : (mv : Move) → Finds old s found (Ok mv) n → (w : Writer) (part : Part) → IsOpen (game_by w old) part
      → (text_refusal old.profile part (symbol s) ≡ None) × (in_text part (symbol s) ≡ going (with_items part (move mv ∷ [])))
  move_says mv finds w part is = search (rules, next_of, move_free, move_leads)

  pub move_means : (new : GameState) (mv : Move) → Finds old s found (Ok mv) n → new ≡ record found { text = new.text }
      → Plays mv old.text new.text → Means old (symbol s) new (events.Move mv n)
  move_means new mv finds moved text = search (rules, move_says, costs_found)
