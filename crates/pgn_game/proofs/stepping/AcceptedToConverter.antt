-- One token that the lexer gave, and what the reader answered to it.
use Rattle.pgn_lexer.specs.PartialToken.{refusal as refusal_token}
use Rattle.pgn_game.proofs.Words.{Writing, Reason, Lexical, WriteFault, Profile, Game, Part, ◌≡◌, ℕ, ◌+◌, ◌<◌, ◌≤◌, ◌⊎◌, Bool, List, [], ◌∷◌, ◌++◌, length, take, Option, None, Some, Err, refl, sym, ap, subst, ◌∙◌, append_assoc, append-nil, length-append, arith, IsTrue, map, sum, map-append, list_any-append, or_cases, Appends, Token, Standing, Follows, first, still, More, Finished, refusal, position_if_move, position_in, Next, next, Progress, progress_with, progress_after, Read, read, gain, text_next, plies_of, has_move, GameState, Agrees, as_written, IsBehind, plies_of_finished_games, plies_added, Leads, Answers, AppendsFront, MostTried, Raises, Tries, TriesUnwritten, sum_by-append, sum_by-cons, LexFault, finished_game_of, Converter, game_in_reader, play_moves, has_played_move, HasRead, IsLastGame, refused_stop as refused, unwritten, reported_position, FaultAtEnd, SameGames, due_as, rules, position_at_fault, due, torn, text_of_games as text_of, common_steps, coming, AreNext, take-append-drop, drop, tokens_of, StandsAfter}
use Rattle.pgn_game.specs.steps.GameState as game_state
use Rattle.pgn_game.proofs.stepping.PairsTriedForToken.{most_with, most_to_refused, part_probed}
use Rattle.pgn_game.proofs.stepping.OneMoreToken.{read-passes, read-refuses, due-passes}
use Rattle.pgn_game.proofs.stepping.NextGrows.{next_is}

pub follows_first : (xs s : List ℕ) → Follows (first xs) (xs ++ s)
follows_first xs s = search rules

pub follows_own : (xs : List ℕ) → Follows (first xs) xs
follows_own xs = search rules

pub follows_none : (b : Option ℕ) → Follows b []
follows_none b = search rules

-- what a token leads to, with the games before; one that finishes no game counts no move
leads_more : (nx : Next) (games : List Game) (r : GameState) → Leads nx More r
    → ((progress_with games nx).games ≡ games) × Agrees r (progress_with games nx).part × (plies_added nx ≡ 0)
leads_more nx games r h = search rules

-- what stands written then, where a missing Result is written as by w
text_more : (w p : Profile) (nx : Next) (games : List Game) (r : GameState) → Leads nx More r
    → text_of p (progress_with games nx).games ++ torn w (progress_with games nx).part ≡ text_of p games ++ text_next w nx
text_more w p nx games r h = search rules

leads_finished : (nx : Next) (games : List Game) (r : GameState) → Leads nx Finished r
    → (g : Game) × ((progress_with games nx).games ≡ games ++ g ∷ [])
    × Agrees r (progress_with games nx).part × IsBehind r g × (plies_added nx ≡ plies_of g)
leads_finished nx games r h = search rules

-- what the reader still holds of the game that it is behind
pub finished_behind : {r : GameState} {g : Game} → IsBehind r g → game_in_reader r ≡ finished_game_of g
finished_behind h = cc (h.pairs, h.plies, h.position, h.marker)

plies-snoc : (games : List Game) (g : Game) → sum (map plies_of (games ++ g ∷ [])) ≡ sum (map plies_of games) + plies_of g
plies-snoc games g = grind (arith, common_steps, sum_by-cons, map-append, sum_by-append)

-- a move is in the games before, or in the last one
moves-snoc : (games : List Game) (g : Game) → IsTrue (play_moves (games ++ g ∷ [])) → IsTrue (play_moves games) ⊎ IsTrue (has_move g.items)
moves-snoc games g h = search (rules, list_any-append, or_cases)

pub in_games : (b : Progress) → IsTrue (play_moves b.games) → IsTrue (has_played_move b)
in_games b h = grind (arith, common_steps)

-- some pair was tried where a move was played in a game, or in the part
in_either : {r : GameState} (b : Progress) → Agrees r b.part
    → (IsTrue (play_moves b.games) → 0 < r.most_probes) → IsTrue (has_played_move b) → 0 < r.most_probes
in_either {r} b agrees before moves = grind (arith, common_steps, part_probed)

-- a converter after a token, where it finishes no game and is no fault
abbrev pub now_at : Standing → GameState → ℕ → Bool → Converter
now_at l r games finished =
    record { lexer = l; reading = r; games = games; just_finished = None; is_finished = finished; fault = None }

module _ (p : Profile) (old : Converter) (given : List Token) (t : Token) (l : Standing) (new : GameState) (finished : Bool)
    (has_read : HasRead p old given) (profile : new.profile ≡ old.reading.profile) (probes : old.reading.most_probes ≤ new.most_probes)
    (writing : new.writing ≡ old.reading.writing) where
  abbrev b : Progress
  b = (read p given).progress

  passes : refusal old.reading.profile b.part t.kind ≡ None → refusal p b.part t.kind ≡ None
  passes h = subst (λ q. refusal q b.part t.kind ≡ None) has_read.profile h

  reads : refusal old.reading.profile b.part t.kind ≡ None → read p (given ++ t ∷ []) ≡ record { progress = progress_after b t; fault = None }
  reads h = read-passes p given t has_read.passes (passes h)

  same_silence : old.reading.writing.is_silent ≡ new.writing.is_silent
  same_silence = ap (λ (w : Writing). w.is_silent) (sym writing)

  tried_before : MostTried new.writing.is_silent p given old.reading.most_probes
  tried_before = subst (λ (silent : Bool). MostTried silent p given old.reading.most_probes) same_silence has_read.tried

  raised : Raises (Tries old.reading.writing.is_silent old.reading.profile b.part t.kind) old.reading.most_probes new.most_probes
      → Raises (Tries new.writing.is_silent p b.part t.kind) old.reading.most_probes new.most_probes
  raised h = grind (arith, common_steps, same_silence)

  most_tried : refusal old.reading.profile b.part t.kind ≡ None
      → Raises (Tries old.reading.writing.is_silent old.reading.profile b.part t.kind) old.reading.most_probes new.most_probes → MostTried new.writing.is_silent p (given ++ t ∷ []) new.most_probes
  most_tried h tries = most_with new.writing.is_silent p t tried_before has_read.passes (passes h) (raised tries)

  probed_before : IsTrue (has_played_move b) → 0 < new.most_probes
  probed_before moves = let some = has_read.probed moves in omega (arith, some, probes)

  pub same_games : refusal old.reading.profile b.part t.kind ≡ None
      → Leads (next b.part t.kind) More new → SameGames p given (given ++ t ∷ [])
  same_games h leads = rw (reads h) ((leads_more (next b.part t.kind) b.games new leads).0)

  pub has_read_more : refusal old.reading.profile b.part t.kind ≡ None → Leads (next b.part t.kind) More new
      → plies_of_finished_games new ≡ plies_of_finished_games old.reading + plies_added (next b.part t.kind)
      → Raises (Tries old.reading.writing.is_silent old.reading.profile b.part t.kind) old.reading.most_probes new.most_probes
      → HasRead p (now_at l new old.games finished) (given ++ t ∷ [])
  has_read_more h leads plies tries =
      let more = leads_more (next b.part t.kind) b.games new leads in
      let same = same_games h leads in
      let total : plies_of_finished_games new ≡ plies_of_finished_games old.reading = omega (arith, plies, more.2) in
      let agrees : Agrees new (read p (given ++ t ∷ [])).progress.part = rw (reads h) more.1 in
      search (rules, passes, reads, in_either, probed_before, in_games, most_tried)

  pub has_read_game : refusal old.reading.profile b.part t.kind ≡ None → Leads (next b.part t.kind) Finished new
      → plies_of_finished_games new ≡ plies_of_finished_games old.reading + plies_added (next b.part t.kind)
      → Raises (Tries old.reading.writing.is_silent old.reading.profile b.part t.kind) old.reading.most_probes new.most_probes
      → HasRead p (record {
        lexer = l;
        reading = new;
        games = old.games + 1;
        just_finished = Some (game_in_reader new);
        is_finished = finished;
        fault = None;
      }) (given ++ t ∷ [])
  has_read_game h leads plies tries =
      let done = leads_finished (next b.part t.kind) b.games new leads in
      let one = ap (λ (r : Read). r.progress.games) (reads h) ∙ done.1 in
      let g : Game = done.0 in
      let behind : IsBehind new g = done.3 in
      let agrees : Agrees new (read p (given ++ t ∷ [])).progress.part = rw (reads h) done.2 in
      search (rules, passes, reads, length-append, plies-snoc, in_either, moves-snoc, probed_before, in_games, most_tried, finished_behind)

  pub at_refused : (us : List Token) {a c : Option (List ℕ)} {reason : Reason}
      → refusal old.reading.profile b.part t.kind ≡ Some reason → Appends a c []
      → Raises (Tries old.reading.writing.is_silent old.reading.profile b.part t.kind) old.reading.most_probes new.most_probes
      → reported_position new reason ≡ position_if_move reason (position_in b.part)
      → FaultAtEnd p given (given ++ t ∷ us) (record { at = t.at; reason = reason }) new a c
  at_refused us {reason} h wrote tries here =
      let some = rw has_read.profile at h in
      let ends = read-refuses p given t us reason has_read.passes some in
      record {
        stops = refused (record { at = t.at; reason = reason }) (ap (λ (r : Read). r.fault) ends)
            (record { text = []; due_for = rw ends (sym (append-nil (due p given))); appended = wrote });
        no_game = ap (λ (r : Read). r.progress.games) ends;
        counts = search (rules, most_to_refused, tried_before, raised, probed_before);
        position = here ∙ sym (ap position_at_fault ends);
      }

  -- where the reason is not that a write failed
  pub at_refusal : (us : List Token) {a c : Option (List ℕ)} {why : Reason} → (why ≡ WriteFault → ⊥)
      → Answers old.reading b.part t.kind new (Err why) a c → FaultAtEnd p given (given ++ t ∷ us) (record { at = t.at; reason = why }) new a c
  at_refusal us other (game_state.refused reason some wrote tries here) = at_refused us some wrote tries here
  at_refusal us other (game_state.unwritten none wrote tries) = absurd (other refl)

  -- where the game goes on, the same profile writes what the token adds
  pub due_more : (w : Profile) → refusal old.reading.profile b.part t.kind ≡ None → Leads (next b.part t.kind) More new
      → due_as w p (given ++ t ∷ []) ≡ due_as w p given ++ gain w b.part t.kind
  due_more w h leads = grind (arith, common_steps, reads, text_more, next_is, append_assoc)

  -- what is written is the profile's
  module _ (written : as_written old.reading ≡ old.reading.profile) where
    shown : as_written old.reading ≡ p
    shown = written ∙ has_read.profile

    pub at_unwritten : (us : List Token) {a c : Option (List ℕ)} → refusal old.reading.profile b.part t.kind ≡ None
        → AppendsFront a c (gain (as_written old.reading) b.part t.kind)
        → Raises (TriesUnwritten old.reading.writing.is_silent old.reading.profile b.part t.kind) old.reading.most_probes new.most_probes
        → FaultAtEnd p given (given ++ t ∷ us) (record { at = t.at; reason = WriteFault }) new a c
    at_unwritten us {a} {c} h (n, short, wrote) tries =
        record {
          stops = unwritten t.at (record {
            front = given;
            token = t;
            rest = us;
            cut = refl;
            place = refl;
            passes = rw (reads h);
            text = gain p b.part t.kind;
            due_for = due-passes p given t has_read.passes (passes h);
            count = n;
            least = omega arith;
            short = subst (λ q. n < length (gain q b.part t.kind)) shown short;
            appended = subst (λ q. Appends a c (take n (gain q b.part t.kind))) shown wrote;
          });
          no_game = refl;
          counts = search (rules, tried_before, same_silence, probed_before);
          position = refl;
        }

    pub at_fault : (us : List Token) {a c : Option (List ℕ)} {why : Reason} → Answers old.reading b.part t.kind new (Err why) a c
        → FaultAtEnd p given (given ++ t ∷ us) (record { at = t.at; reason = why }) new a c
    at_fault us (game_state.refused reason some wrote tries here) = at_refused us some wrote tries here
    at_fault us (game_state.unwritten none wrote tries) = at_unwritten us none wrote tries

-- a text that goes on behind the bytes used goes on behind the piece
pub next_in_piece : (l : Standing) (u piece : List ℕ) (used : ℕ) {given : List Token}
    → StandsAfter l (u ++ take used piece) (first (drop used piece)) given → AreNext (u ++ piece) given
next_in_piece l u piece used stands s =
    let rest = drop used piece in
    let whole : (u ++ piece) ++ s ≡ (u ++ take used piece) ++ (rest ++ s) =
    cc (take-append-drop used piece, append_assoc u (take used piece) rest, append_assoc (u ++ take used piece) rest s) in
    (coming l (rest ++ s), ap tokens_of whole ∙ stands.tokens (rest ++ s) (follows_first rest s))

pub still_none : (b : Option ℕ) (piece : List ℕ) → 0 < length piece → still b piece ≡ None
still_none b piece h = search rules

-- the same was read by a converter with the same reader and count
pub read_as : {p : Profile} {old new : Converter} {given : List Token} → HasRead p old given → new.reading ≡ old.reading → new.games ≡ old.games
    → new.fault ≡ None → IsLastGame new.just_finished (read p given).progress.games → HasRead p new given
read_as h same games none last = grind (arith, common_steps, passes)

-- wherever the lexer stands
module _ (p : Profile) (old : Converter) (given : List Token) where
  pub read_at : (l : Standing) (finished : Bool) → HasRead p old given → HasRead p (now_at l old.reading old.games finished) given
  read_at l finished h = read_as h refl refl refl tt

-- a rejection of the lexer is a row of its own
pub lexical-refusal : (p : Profile) (part : Part) (f : LexFault) → refusal p part (refusal_token f).kind ≡ Some (Lexical f.reason)
unfolding refusal
lexical-refusal p part f = refl
