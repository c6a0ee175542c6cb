-- What is read of a piece: white space, a token, or what the lexer rejects.
use Rattle.pgn_lexer.specs.Scanned.{Scanned, token}
use Rattle.pgn_game.proofs.Words.{false≢true, ◌≡◌, ℕ, ◌+◌, ◌<◌, ◌≤◌, inl, List, [], ◌∷◌, ◌++◌, length, take, drop, Option, None, Some, sym, ap, subst, ◌∙◌, arith, take-add, drop-drop, length-drop, length-append, take-append_seam, Token, Standing, Converter, GameState, AfterScan, StandsAfter, first, more, fault, LexFault, decided, Ok, Err, true, Device, Reason, More, TakesToken, Lexical, Follows, Scans, append-nil, false, AreNext, tokens_of, take-append-drop, rules}
use Rattle.pgn_lexer.specs.PartialToken.{refusal as refusal_token}
use Rattle.pgn_game.specs.steps.TokenTaken.{FinishesPlaced, TakesPlaced}
use Rattle.pgn_game.specs.steps.Flow.{At, AreAllDecided, HasGivenOf, ReadsOn, ended, so_far, Start}
use Rattle.pgn_game.proofs.flow.Takes.{closes, finished_at, stops, stops_lexical, takes_game, takes_more}
use Rattle.pgn_game.proofs.stepping.ReadsInText.{between}
use Rattle.pgn_game.proofs.stepping.StepsInPiece.{before_any}
use Rattle.pgn_game.proofs.stepping.AcceptedToConverter.{follows_own, next_in_piece, now_at, read_at, still_none}

module _ (s piece : List ℕ) (at : ℕ) (ahead : drop at s ≡ piece) (within : at ≤ length s) where
  size : length s ≡ at + length piece
  size = omega (arith, within, ap (length {A = ℕ}) ahead, length-drop at s)

  there : (used : ℕ) → take (at + used) s ≡ take at s ++ take used piece
  there used = take-add at used s ∙ ap (λ xs. take at s ++ take used xs) ahead

  pub still_ahead : (used : ℕ) → drop (at + used) s ≡ drop used piece
  still_ahead used = sym (drop-drop used at s) ∙ ap (drop used) ahead

  whole : take at s ++ piece ≡ s
  whole = ap (λ xs. take at s ++ xs) (sym ahead) ∙ take-append-drop at s

follows_start : (front rest : List ℕ) → Follows (first (front ++ rest)) front
follows_start front rest = search rules

-- A converter that stands in the text, before a piece of it.
module _ (start : Start) (s piece : List ℕ) (old : Converter) (given : List Token) (a : Option (List ℕ))
    (here : At start (so_far s) old given a) (ahead : drop old.lexer.count s ≡ piece) where
  abbrev u : List ℕ
  u = take old.lexer.count s

  scanned_on : {l : Standing} {used : ℕ} {seen : Scanned} → Scans old.lexer piece l used seen → AfterScan u (first piece) given piece l used seen
  scanned_on scans = scans.carries u (first piece) given (rw ahead at here.lexer.1) (follows_own piece)

  module _ (l : Standing) (used : ℕ) (count : l.count ≡ old.lexer.count + used) (inside : used ≤ length piece) where
    there_now : take l.count s ≡ u ++ take used piece
    there_now = rw count (there s piece old.lexer.count ahead here.lexer.0 used)

    rest_now : drop l.count s ≡ drop used piece
    rest_now = rw count (still_ahead s piece old.lexer.count ahead here.lexer.0 used)

    short : l.count ≤ length s
    short = omega (arith, count, inside, size s piece old.lexer.count ahead here.lexer.0)

    module _ (t : Token) (scans : Scans old.lexer piece l used (token t)) where
      pub behind : HasGivenOf (so_far s) l false (given ++ t ∷ [])
      behind = (short, rw (there_now, rest_now) ((scanned_on scans).0))

      pub decided_behind : AreAllDecided start (so_far s) l.count (given ++ t ∷ [])
      decided_behind = inl (rw (there_now, rest_now) ((scanned_on scans).1))

      pub comes_next : AreNext s (given ++ t ∷ [])
      comes_next = rw (whole s piece old.lexer.count ahead here.lexer.0) at (next_in_piece l u piece used ((scanned_on scans).0))

  -- no token ends in a front of the piece
  module _ (front rest : List ℕ) (cut : front ++ rest ≡ piece) (some : 0 < length front) {l : Standing} {used : ℕ}
      (scans : Scans old.lexer front l used more) where
    scan : AfterScan u (first piece) given front l used more
    scan = scans.carries u (first piece) given (rw ahead at here.lexer.1) (subst (λ xs. Follows (first xs) front) cut (follows_start front rest))

    inside_front : used ≤ length piece
    inside_front = omega (arith, scan.0, ap (length {A = ℕ}) cut, length-append front rest)

    front_used : take used piece ≡ front
    front_used = ap (λ n. take n piece) scan.0 ∙ ap (take (length front)) (sym cut) ∙ take-append_seam front rest

    up_to : take l.count s ≡ u ++ front
    up_to = there_now l used scans.count inside_front ∙ ap (λ xs. u ++ xs) front_used

    stands : StandsAfter l (u ++ front) None given
    stands = rw (still_none (first piece) front some) at scan.1

    pub goes_on : At start (so_far s) (now_at l old.reading old.games false) given a
    goes_on =
        record {
          since = search (rules, read_at);
          lexer = (short l used scans.count inside_front, rw up_to (before_any stands));
          decided = inl (inl (scan.2 some ∙ ap decided (sym up_to)));
          over = λ is. absurd (false≢true is);
        }

  -- the text is rejected
  pub refused_next : (f : LexFault) {l : Standing} {used : ℕ} → 0 < length piece → Scans old.lexer piece l used (fault f) → AreNext s (given ++ refusal_token f ∷ [])
  refused_next f some scans xs = (
    [],
    ap (λ text. tokens_of (text ++ xs)) (sym (whole s piece old.lexer.count ahead here.lexer.0))
        ∙ (scanned_on scans).0 xs (subst (λ b. Follows b xs) (sym (still_none (first piece) piece some)) tt) ∙ sym (append-nil (given ++ refusal_token f ∷ [])),
  )

-- ---- what a call does that reads it

pub reads_none : (old : Converter) (piece : List ℕ) (o : Option (List ℕ)) (n : ℕ) → ReadsOn old (Some piece) old (Ok false) (between o o n n)
reads_none old piece o n start text tokens ahead here = (tokens, here)

module _ (old : Converter) (piece : List ℕ) where
  pub reads_more : (front rest : List ℕ) → front ++ rest ≡ piece → 0 < length front → {l : Standing} {used : ℕ} → Scans old.lexer front l used more
      → (o : Option (List ℕ)) (n : ℕ) → ReadsOn old (Some piece) (now_at l old.reading old.games false) (Ok false) (between o o n n)
  reads_more front rest cut some scans o n start (so_far s) tokens ahead here =
      (tokens, goes_on start s piece old tokens o here ahead front rest cut some scans)
  reads_more front rest cut some scans o n start (ended s) tokens ahead here = absurd ahead

  module _ {l : Standing} {used : ℕ} (inside : used ≤ length piece) where
    -- the lexer rejects the text
    pub reads_fault : 0 < length piece → (f : LexFault) → Scans old.lexer piece l used (fault f) → (now : Converter) → now.reading ≡ old.reading → now.games ≡ old.games
        → (o : Option (List ℕ)) (n : ℕ) → ReadsOn old (Some piece) now (Err (record { at = f.at; reason = Lexical f.reason })) (between o o n n)
    reads_fault some f scans now is same o n start (so_far s) tokens ahead here = search (rules, stops_lexical, refused_next)
    reads_fault some f scans now is same o n start (ended s) tokens ahead here = absurd ahead

    module _ (t : Token) (scans : Scans old.lexer piece l used (token t)) (new : GameState) (d : Device) where
      pub reads_token : TakesToken old.reading t.kind new (Ok More) d → ReadsOn old (Some piece) (now_at l new old.games false) (Ok false) d
      reads_token takes start (so_far s) tokens ahead here = (
        tokens ++ t ∷ [],
        takes_more start (so_far s) old tokens t l new d here.since false takes (λ is. absurd (false≢true is))
            (behind start s piece old tokens d.before here ahead l used scans.count inside t scans)
            (decided_behind start s piece old tokens d.before here ahead l used scans.count inside t scans),
      )
      reads_token takes start (ended s) tokens ahead here = absurd ahead

      pub reads_game : FinishesPlaced old.reading t.kind t.at new d → ReadsOn old (Some piece) (finished_at l new old.games) (Ok true) d
      reads_game takes start (so_far s) tokens ahead here = (
        tokens ++ t ∷ [],
        takes_game start (so_far s) old tokens t l new d here.since takes
            (behind start s piece old tokens d.before here ahead l used scans.count inside t scans)
            (decided_behind start s piece old tokens d.before here ahead l used scans.count inside t scans),
        closes start (so_far s) old tokens t l new d here.since takes scans.ends,
      )
      reads_game takes start (ended s) tokens ahead here = absurd ahead

      pub reads_stop : (reason : Reason) → TakesPlaced old.reading t.kind t.at new (Err reason) d → (now : Converter) → now.reading ≡ new → now.games ≡ old.games
          → ReadsOn old (Some piece) now (Err (record { at = t.at; reason = reason })) d
      reads_stop reason takes now is same start (so_far s) tokens ahead here = search (rules, stops, comes_next)
      reads_stop reason takes now is same start (ended s) tokens ahead here = absurd ahead
