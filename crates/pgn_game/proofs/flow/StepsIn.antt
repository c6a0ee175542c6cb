-- What a step in a piece does: a call of the lexer, or what it passes and the token behind that.
use Rattle.pgn_lexer.specs.Scanned.{token}
use Rattle.pgn_game.proofs.Words.{seen, IsBeforePiece, IsBeforeToken, LexFault, Lexical, Fault, Bool, IsTrue, true, false, ◌≡◌, ℕ, ◌+◌, ◌-◌, ◌<◌, ◌≤◌, ◌^◌, List, [], length, drop, length-drop, append-nil, le_refl, Option, None, Some, Result, Ok, Err, arith, Token, InMovetext, Reason, GameState, Converter, Device, IsSound, Standing, fault, more, Scans, ReadsBehind, rules}
use Rattle.pgn_game.specs.steps.Flow.{HasTakenToken, ReadsIn, StepsIn, settled, taken_at}
use Rattle.pgn_game.specs.steps.TokenTaken.{TakesPlaced}
use Rattle.pgn_game.proofs.putting.TokenAtPlace.{placed_between, placed_counts, placed_keeps}
use Rattle.pgn_game.proofs.flow.InPiece.{reads_fault, reads_game, reads_more, reads_stop, reads_token}
use Rattle.pgn_game.proofs.flow.InTurn.{steps_then}
use Rattle.pgn_game.proofs.flow.PastNumbers.{reads_past}
use Rattle.pgn_game.proofs.stepping.AcceptedToConverter.{now_at}
use Rattle.pgn_game.proofs.stepping.PastNumbers.{passes_count}
use Rattle.pgn_game.proofs.stepping.ReadsInText.{between}
use Rattle.pgn_game.proofs.stepping.StepsAtEnd.{counts_reason, sound_in_piece}
use Rattle.pgn_game.proofs.stepping.StepsOverTokens.{sound_past}

-- A reader in a converter without a fault, before a piece that ends before place 2^62.
module _ (lexer : Standing) (reading : GameState) (games : ℕ) (piece : List ℕ) (some : 0 < length piece) {l : Standing} {used : ℕ} (within : used ≤ length piece) where
  -- no token ends in the piece
  pub steps_more : Scans lexer piece l used more → (o : Option (List ℕ)) (n : ℕ)
      → StepsIn (now_at lexer reading games false) piece (now_at l reading games false) used (Ok false) (between o o n n)
  steps_more scans o n =
      record {
        reads = record {
          reads = reads_more (now_at lexer reading games false) piece piece [] (append-nil piece) some scans o n;
          goes = search (rules, le_refl);
        };
        nearer = omega (arith, scans.few, scans.reads.0, some);
      }

  -- the text is rejected
  pub steps_fault : (f : LexFault) → Scans lexer piece l used (fault f) → (o : Option (List ℕ)) (n : ℕ)
      → StepsIn (now_at lexer reading games false) piece (record (now_at l reading games false) { fault = Some (record { at = f.at; reason = Lexical f.reason }) }) used
      (Err (record { at = f.at; reason = Lexical f.reason })) (between o o n n)
  steps_fault f scans o n = search (rules, reads_fault, now_at, le_refl)

  -- a token is read, which the reader takes
  module _ {t : Token} (scans : Scans lexer piece l used (token t)) (new : GameState) (sink : Device) where
    pub steps_taken : (taken : Result Bool Reason) → TakesPlaced reading t.kind t.at new taken sink
        → StepsIn (now_at lexer reading games false) piece (settled t.at taken (now_at l new games false)) used (taken_at t.at taken) sink
    steps_taken (Ok false) takes =
        record {
          reads = record {
            reads = reads_token (now_at lexer reading games false) piece within t scans new sink takes;
            goes = search rules;
          };
          nearer = omega (arith, scans.advances);
        }
    steps_taken (Ok true) takes =
        record {
          reads = record {
            reads = reads_game (now_at lexer reading games false) piece within t scans new sink takes;
            goes = search rules;
          };
          nearer = omega (arith, scans.advances);
        }
    steps_taken (Err reason) takes = search (rules, reads_stop, now_at, placed_keeps, counts_reason, placed_counts)

    module _ (sound : IsSound lexer reading games false false None) (short : lexer.count + length piece ≤ 2 ^ 62)
        (taken : Result Bool Reason) (takes : TakesPlaced reading t.kind t.at new taken sink) where
      pub sound_taken : IsSound l new games false false None
      sound_taken = search (rules, sound_in_piece, placed_keeps)

      pub has_taken : HasTakenToken (now_at l new games false) taken
      has_taken = search (rules, between, placed_between)

-- and what was passed before it
module _ (lexer : Standing) (reading : GameState) (games : ℕ) (piece : List ℕ) (sound : IsSound lexer reading games false false None) (short : lexer.count + length piece ≤ 2 ^ 62)
    {skips : Bool} (at : IsTrue skips → reading.stage ≡ InMovetext) {l : Standing} {used : ℕ} {t : Token} (behind : ReadsBehind skips lexer piece l used t) (within : used ≤ length piece)
    (new : GameState) (taken : Result Bool Reason) (sink : Device) (takes : TakesPlaced reading t.kind t.at new taken sink) where
  abbrev rest : List ℕ
  rest = drop behind.passed piece

  long : length rest ≡ length piece - behind.passed
  long = length-drop behind.passed piece

  inside : behind.count ≤ length rest
  inside = omega (arith, within, behind.all, long, behind.within)

  more_left : 0 < length rest
  more_left = omega (arith, long, behind.within)

  there : IsSound behind.mid reading games false false None
  there = sound_past lexer reading games piece sound short at behind.passes (omega (arith, behind.within))

  room : behind.mid.count + length rest ≤ 2 ^ 62
  room = omega (arith, passes_count behind.passes, short, long, behind.within)

  pub steps_behind : StepsIn (now_at lexer reading games false) piece (settled t.at taken (now_at l new games false)) used (taken_at t.at taken) sink
  steps_behind =
      rw behind.all (steps_then behind.within (reads_past lexer reading games piece sink.before sink.failures at behind.passes (omega (arith, behind.within)))
      (steps_taken behind.mid reading games rest more_left inside behind.reads new sink taken takes))

  pub sound_behind : IsSound l new games false false None
  sound_behind = sound_taken behind.mid reading games rest more_left inside behind.reads new sink there room taken takes

  pub has_taken_behind : HasTakenToken (now_at l new games false) taken
  has_taken_behind = has_taken behind.mid reading games rest more_left inside behind.reads new sink there room taken takes

-- of the same converter
pub steps_of : {here old new : Converter} {piece : List ℕ} {used : ℕ} {outcome : Result Bool Fault} (a b : Option (List ℕ)) (x y : ℕ)
    → here ≡ old → StepsIn here piece new used outcome (seen here.reading.writing.is_silent (between a b x y))
    → StepsIn old piece new used outcome (seen old.reading.writing.is_silent (between a b x y))
steps_of {here} {old} {new} {piece} {used} {outcome} a b x y same steps = search (rules, between)

-- a run that used a byte is a step
pub steps_run : {old new : Converter} {piece : List ℕ} {used : ℕ} {sink : Device} → 0 < used → ReadsIn old piece new used (Ok false) sink
    → StepsIn old piece new used (Ok false) sink
steps_run some reads = record { reads = reads; nearer = omega (arith, some, reads.goes.sooner) }

-- behind what was read there is still room for the rest of the piece
pub room_behind : {old now : Converter} {piece : List ℕ} {at : ℕ} {sink : Device} → old.lexer.count + length piece ≤ 2 ^ 62 → ReadsIn old piece now at (Ok false) sink
    → now.lexer.count + length (drop at piece) ≤ 2 ^ 62
room_behind {piece = piece} {at = at} short reads = omega (arith, reads.goes.count, reads.goes.within, short, length-drop at piece)

-- and a step can be taken, if a byte is left
pub before_rest : {old now : Converter} {piece : List ℕ} {at : ℕ} {sink : Device} → old.lexer.count + length piece ≤ 2 ^ 62 → ReadsIn old piece now at (Ok false) sink → at < length piece
    → IsBeforePiece now (drop at piece)
before_rest {piece = piece} {at = at} short reads here = search (rules, length-drop, room_behind)

pub before_now : {old now : Converter} {piece : List ℕ} {at : ℕ} {sink : Device} → ReadsIn old piece now at (Ok false) sink → IsBeforeToken now
before_now reads = record { no_fault = reads.goes.fault; not_finished = reads.goes.not_finished; none_just_finished = reads.goes.none_else }
