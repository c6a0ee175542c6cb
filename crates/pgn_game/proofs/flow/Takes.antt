-- One token that the lexer gave and the reader took, wherever it comes from.
use Rattle.pgn_game.proofs.Words.{is_end, Between, Writing, WriteFault, le_refl, Token, Profile, Game, Part, Next, Reason, ◌≡◌, ◌+◌, ◌∷◌, ◌++◌, ℕ, Bool, true, false, false≢true, inl, List, [], Option, None, Some, Ok, Err, refl, sym, ap, subst, ◌∙◌, append_assoc, Device, Standing, GameState, Leads, More, Finished, Converter, IsBehind, part_after, TakesToken, game_in_reader, game_of, marker_of, next, whole, refusal, as_written, LexFault, Lexical, Appends, Appends-nil, FinishedGame, gain, rules}
use Rattle.pgn_lexer.specs.PartialToken.{refusal as refusal_token}
use Rattle.pgn_game.specs.steps.TokenTaken.{FinishesPlaced, TakesPlaced}
use Rattle.pgn_game.specs.steps.GameState.{expected_of, is_unexpected, refused}
use Rattle.pgn_game.specs.steps.Flow.{At, Closes, EndsThere, AreAllDecided, HasGivenOf, IsNextIn, KnowsResult, Known, Since, Start, StopsAt, profile_written}
use Rattle.pgn_game.proofs.stepping.AcceptedToConverter.{due_more, finished_behind, has_read_game, has_read_more, lexical-refusal, now_at}
use Rattle.pgn_game.proofs.stepping.OneMoreToken.{read-passes}
use Rattle.pgn_game.proofs.stepping.PairsTriedForToken.{raises_none}
use Rattle.pgn_game.proofs.twice.MarkerCounts.{marker_finishes}
use Rattle.pgn_game.proofs.flow.KnownResults.{due_game, expected_so, gains_as_more, same_text, writes_if_expected, written_so}
use Rattle.pgn_game.proofs.putting.TokenAtPlace.{placed_keeps}

-- a converter that has just finished the game that its reader holds
abbrev pub finished_at : Standing → GameState → ℕ → Converter
finished_at l r games =
    record { lexer = l; reading = r; games = games + 1; just_finished = Some (game_in_reader r); is_finished = false; fault = None }

module _ (start : Start) (text : Known) (old : Converter) (given : List Token) (t : Token) (l : Standing) (new : GameState) (d : Device)
    (here : Since start old given d.before) where
  abbrev w : Profile
  w = profile_written start.profile start.expected

  abbrev part : Part
  part = part_after start.profile given

  written_before : new.writing ≡ old.reading.writing → new.writing.is_silent ≡ false → old.reading.writing.is_silent ≡ false
  written_before writing writes = ap (λ (w : Writing). w.is_silent) (sym writing) ∙ writes

  written_here : old.reading.writing.is_silent ≡ false → as_written old.reading ≡ profile_written start.profile start.expected
  written_here writes = written_so start.expected start.profile old.reading here.has_read.profile (here.known writes)

  expected_here : old.reading.writing.is_silent ≡ false → expected_of old.reading ≡ start.expected
  expected_here writes = expected_so start.expected start.profile old.reading writes here.has_read.profile (here.known writes)

  -- a reader that has not changed how it writes knows the same
  still_known : new.writing ≡ old.reading.writing → new.writing.is_silent ≡ false → KnowsResult start.expected start.profile new
  still_known writing writes = search (rules, written_before)

  extends_on : given ++ t ∷ [] ≡ start.given ++ (here.more ++ t ∷ [])
  extends_on = ap (λ ts. ts ++ t ∷ []) here.extends ∙ append_assoc start.given here.more (t ∷ [])

  -- it goes on with the game
  pub takes_more : (finished : Bool) → TakesToken old.reading t.kind new (Ok More) d → (finished ≡ true → (new.stage ≡ Between) × (is_end t.kind ≡ true))
      → HasGivenOf text l finished (given ++ t ∷ []) → AreAllDecided start text l.count (given ++ t ∷ [])
      → At start text (now_at l new old.games finished) (given ++ t ∷ []) d.after
  takes_more finished takes over lexer decided =
      let h = takes.accepts (part_after start.profile given) here.has_read.agrees in
      let keeps = takes.keeps in
      record {
        since = record {
          more = here.more ++ t ∷ [];
          extends = extends_on;
          has_read = has_read_more start.profile old given t l new finished here.has_read keeps.profile keeps.probes keeps.writing h.free h.leads h.plies h.tried;
          known = still_known keeps.writing;
          gains = λ writes.
              let before = written_before keeps.writing writes in
              gains_as_more (here.gains before) (record {
                text = gain w part t.kind;
                due_for = due_more start.profile old given t l new finished here.has_read keeps.profile keeps.probes keeps.writing w h.free h.leads;
                appended = subst (λ (w : Profile). Appends d.before d.after (gain w part t.kind)) (written_here before) h.appended;
              });
        };
        lexer = lexer;
        decided = decided;
        over = λ is. ((over is).0, (given, t, refl, (over is).1));
      }

  -- it finishes the game
  module _ (ends : FinishesPlaced old.reading t.kind t.at new d) where
    free : refusal start.profile (part_after start.profile given) t.kind ≡ None
    free = search rules

    abbrev game : Game
    game = game_of (part_after start.profile given) ends.text

    leads : next (part_after start.profile given) t.kind ≡ whole (game_of (part_after start.profile given) ends.text)
    leads = marker_finishes start.profile (part_after start.profile given) t.kind ends.text ends.is free

    behind : IsBehind new (game_of (part_after start.profile given) ends.text)
    behind = subst (λ (n : Next). Leads n Finished new) leads ((ends.takes.accepts (part_after start.profile given) here.has_read.agrees).leads)

    as_expected : old.reading.writing.is_silent ≡ false → is_unexpected start.expected ends.text t.at ≡ false
    as_expected writes = subst (λ (e : _). is_unexpected e ends.text t.at ≡ false) (expected_here writes) ends.expected

    pub takes_game : HasGivenOf text l false (given ++ t ∷ []) → AreAllDecided start text l.count (given ++ t ∷ [])
        → At start text (finished_at l new old.games) (given ++ t ∷ []) d.after
    takes_game lexer decided =
        let h = ends.takes.accepts (part_after start.profile given) here.has_read.agrees in
        let keeps = ends.takes.keeps in
        record {
          since = record {
            more = here.more ++ t ∷ [];
            extends = extends_on;
            has_read = has_read_game start.profile old given t l new false here.has_read keeps.profile keeps.probes keeps.writing h.free h.leads h.plies h.tried;
            known = still_known keeps.writing;
            gains = λ writes.
                let before = written_before keeps.writing writes in
                gains_as_more (here.gains before) (record {
                  text = gain w part t.kind;
                  due_for = due_game w start.profile given t game here.has_read.passes free leads
                      (same_text start.expected start.profile old.reading game t.at (here.known before) (as_expected before));
                  appended = subst (λ (w : Profile). Appends d.before d.after (gain w part t.kind)) (written_here before) h.appended;
                });
          };
          lexer = lexer;
          decided = decided;
          over = λ is. absurd (false≢true is);
        }

    pub closes : EndsThere text t l.count → Closes start text (finished_at l new old.games) (given ++ t ∷ [])
    closes there =
        record {
          more = here.more;
          marker = t;
          cut = ap (λ ts. ts ++ t ∷ []) here.extends;
          ends = there;
          game = game;
          one_game = search (rules, read-passes, free, leads);
          just_finished = ap (λ (g : FinishedGame). Some g) (finished_behind behind);
          free = subst (λ ts. refusal start.profile (part_after start.profile ts) t.kind ≡ None) here.extends free;
          leads = subst (λ ts. next (part_after start.profile ts) t.kind ≡ whole game) here.extends leads;
          held = behind.marker;
          place = ends.place;
          expected = λ writes. as_expected (written_before ends.takes.keeps.writing writes);
        }

  -- if a write failed at a marker, it is the one that was announced
  expected_if : (reason : Reason) → TakesPlaced old.reading t.kind t.at new (Err reason) d → old.reading.writing.is_silent ≡ false → reason ≡ WriteFault
      → (text : List ℕ) → marker_of t.kind ≡ Some text → is_unexpected start.expected text t.at ≡ false
  expected_if reason h1 writes failed text is = search (rules, expected_here)

  -- it is rejected, a write failed, or another marker was announced
  pub stops : (reason : Reason) → TakesPlaced old.reading t.kind t.at new (Err reason) d → IsNextIn text given t
      → (now : Converter) → now.reading ≡ new → now.games ≡ old.games → StopsAt start text (record { at = t.at; reason = reason }) now d.after
  stops reason takes next now is same = search (rules, placed_keeps, expected_here, writes_if_expected, expected_if)

-- the lexer rejects the text
pub stops_lexical : (start : Start) (text : Known) (old : Converter) (given : List Token) (a : Option (List ℕ)) → Since start old given a
    → (f : LexFault) → IsNextIn text given (refusal_token f) → (now : Converter) → now.reading ≡ old.reading → now.games ≡ old.games
    → StopsAt start text (record { at = f.at; reason = Lexical f.reason }) now a
stops_lexical start text old given a here f next now is same =
    let some = lexical-refusal old.reading.profile (part_after start.profile given) f in
    record {
      now = old;
      tokens = given;
      mid = a;
      since = here;
      token = refusal_token f;
      next = next;
      place = refl;
      stopped = inl (rw is (refused (Lexical f.reason) some (Appends-nil a) (raises_none some) refl));
      expected = λ writes failed. absurd (cc (failed));
      games = same;
      profile = rw is refl;
      writing = rw is refl;
      probes = rw is (le_refl _);
    }
