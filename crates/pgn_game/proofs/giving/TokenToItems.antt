-- One token of a text, and what is given for it.
use Rattle.pgn_lexer.specs.PartialToken.{refusal as refusal_token}
use Rattle.pgn_lexer.specs.Scanned.{token}
use Rattle.pgn_game.proofs.Words.{◌≡◌, ℕ, ◌+◌, ◌^◌, ◌<◌, ◌≤◌, IsTrue, false, List, [], ◌∷◌, ◌++◌, map, length, take, drop, fold, fold-append, Option, None, Some, Result, Ok, Err, refl, sym, ap, subst, ◌∙◌, arith, append-nil, append_assoc, inl, false≢true, take_all, drop_of_length-le, Token, Reason, WriteFault, Lexical, LexFault, Profile, Game, Item, Pair, Next, Progress, progress_with, read, refusal, next, Follows, StandsAfter, first, Scans, Standing, more, fault, HasRead, IsSound, Keeps, Answers, Accepted, More, Finished, TakesToken, part_after, unused, rules, common_steps}
use Rattle.pgn_game.specs.games.Progress.{position_at_fault}
use Rattle.pgn_game.specs.steps.GameState as game_state
use Rattle.pgn_game.specs.declared.item.Item.{Item as CodeItem}
use Rattle.pgn_game.specs.public.Given.{Given, Shown, given_of, given_of_game, given_of_games, given_of_next, given_of_part, given_with, item, shown, shown_with}
use Rattle.pgn_game.specs.public.ItemsCalls.{Current, has_read_marker}
use Rattle.pgn_game.specs.steps.ItemsSteps.{AfterToken, IsAnswer, ReadsToken, Rejects, TakesItem, games_added, marker_given, reads_as}
use Rattle.pgn_game.proofs.stepping.AcceptedToConverter.{follows_own, has_read_game, has_read_more, lexical-refusal, next_in_piece, read_as, read_at, still_none}
use Rattle.pgn_game.proofs.stepping.OneMoreToken.{read-passes, read-refuses}

games-snoc : (games : List Game) (g : Game) → given_of_games (games ++ g ∷ []) ≡ given_of_games games ++ given_of_game g
games-snoc [] g = append-nil (given_of_game g)
games-snoc (h ∷ games) g = search (rules, append_assoc, (games-snoc games g))

-- what is given with a token more
pub given_after : (games : List Game) (nx : Next) → given_of (progress_with games nx) ≡ given_of_games games ++ given_of_next nx
given_after games nx = search (rules, append-nil, games-snoc)

items_shown : (ps : List Pair) (before is : List Item)
    → fold shown_with (Some (record { pairs = ps; items = before; marker = None })) (map item is) ≡ Some (record { pairs = ps; items = before ++ is; marker = None })
items_shown ps before [] = ap (λ (is : List Item). Some (record { pairs = ps; items = is; marker = None })) (sym (append-nil before))
items_shown ps before (i ∷ is) =
    items_shown ps (before ++ i ∷ []) is ∙ ap (λ (is : List Item). Some (record { pairs = ps; items = is; marker = None })) (append_assoc before (i ∷ []) is)

marker_shown : (s : Shown) (ended : Option (List ℕ)) → s.marker ≡ None
    → fold shown_with (Some s) (marker_given ended) ≡ Some (record { pairs = s.pairs; items = s.items; marker = ended })
marker_shown s ended none = search rules

-- the game of which something was given last
pub shown_is : (given : List Given) (ps : List Pair) (is : List Item) (ended : Option (List ℕ))
    → shown (given ++ (given_with ps is ++ marker_given ended)) ≡ Some (record { pairs = ps; items = is; marker = ended })
shown_is given ps is ended = search (rules, fold-append, items_shown, marker_shown)

-- A token was taken by the current game.
module _ (p : Profile) (old_lexer lexer : Standing) (old new : Current) (given : List Token) (t : Token) (has_read : HasRead p (reads_as old_lexer old) given) where
  abbrev b : Progress
  b = (read p given).progress

  abbrev tokens : List Token
  tokens = given ++ t ∷ []

  passes : refusal old.reading.profile b.part t.kind ≡ None → refusal p b.part t.kind ≡ None
  passes h = subst (λ (q : Profile). refusal q b.part t.kind ≡ None) has_read.profile h

  progress_is : refusal old.reading.profile b.part t.kind ≡ None → (read p tokens).progress ≡ progress_with b.games (next b.part t.kind)
  progress_is h = ap (λ r. r.progress) (read-passes p given t has_read.passes (passes h))

  module _ (games : ℕ) (keeps : Keeps old.reading new.reading) where
    reads_on : (accepted : Accepted) → Answers old.reading b.part t.kind new.reading (Ok accepted) None None
        → new.games ≡ old.games + games_added (Ok accepted) → HasRead p (reads_as lexer new) tokens
    reads_on More h counted =
        read_as (has_read_more p (reads_as old_lexer old) given t lexer new.reading false has_read keeps.profile keeps.probes keeps.writing h.free h.leads h.plies h.tried)
        refl (omega (arith, counted)) refl tt
    reads_on Finished h counted =
        read_as (has_read_game p (reads_as old_lexer old) given t lexer new.reading false has_read keeps.profile keeps.probes keeps.writing h.free h.leads h.plies h.tried)
        refl counted refl tt

  given_more : refusal old.reading.profile b.part t.kind ≡ None → (rest : List Given) → given_of_next (next b.part t.kind) ≡ given_of_part b.part ++ rest
      → given_of (read p tokens).progress ≡ given_of b ++ rest
  given_more h rest is = search (rules, progress_is, given_after, append_assoc)

  given_whole : refusal old.reading.profile b.part t.kind ≡ None → (all : List Given) → given_of_next (next b.part t.kind) ≡ all
      → given_of (read p tokens).progress ≡ given_of_games b.games ++ all
  given_whole h all is = search (rules, progress_is, given_after)

  module _ (item : Option CodeItem) (takes : TakesItem old t.kind new (Ok item)) where
    after_by : (answer : Result Accepted Reason) → takes.answer ≡ answer → IsAnswer (Ok item) answer → AfterToken p given tokens lexer new item
    after_by answer is h1 = grind (arith, common_steps, reads_on, given_more, append-nil, given_whole, shown_is)

    pub after_item : AfterToken p given tokens lexer new item
    after_item = after_by takes.answer refl takes.is

  pub free : (i : Option CodeItem) → TakesItem old t.kind new (Ok i) → refusal p b.part t.kind ≡ None
  free i takes = search (rules, passes)

  no_write_fails : (reason : Reason) → TakesToken old.reading t.kind new.reading (Err reason) (unused None 0) → reason ≡ WriteFault → ⊥
  no_write_fails reason takes is = search rules

  pub rejected : (reason : Reason) → TakesItem old t.kind new (Err reason) → Rejects p given (given ++ t ∷ []) new (record { at = t.at; reason = reason })
  rejected reason takes =
      let taken = subst (λ (a : Result Accepted Reason). TakesToken old.reading t.kind new.reading a (unused None 0)) takes.is takes.takes in
      by reason (no_write_fails reason taken) (taken.accepts b.part has_read.agrees)
    where
      by : (why : Reason) → (why ≡ WriteFault → ⊥) → Answers old.reading b.part t.kind new.reading (Err why) None None → Rejects p given (given ++ t ∷ []) new (record { at = t.at; reason = why })
      by why other (game_state.unwritten none wrote tries) = absurd (other refl)
      by why other (game_state.refused reason some wrote tries here) =
          let ends = read-refuses p given t [] reason has_read.passes (subst (λ (q : Profile). refusal q b.part t.kind ≡ Some reason) has_read.profile some) in
          record { fault = ap (λ r. r.fault) ends; gives = ap (λ r. given_of r.progress) ends; position = here ∙ sym (ap position_at_fault ends) }

-- The lexer rejects the text.
pub rejected_text : (p : Profile) (given : List Token) (new : Current) (f : LexFault) → (read p given).fault ≡ None
    → Rejects p given (given ++ refusal_token f ∷ []) new (record { at = f.at; reason = Lexical f.reason })
rejected_text p given new f passes =
    let ends = read-refuses p given (refusal_token f) [] (Lexical f.reason) passes (lexical-refusal p (part_after p given) f) in search rules

-- no marker was read
pub no_marker : (c : Current) → c.last ≡ None → c.pending ≡ None → IsTrue (has_read_marker c) → ⊥
no_marker c last pending is = search (rules, false≢true)

-- What is read of a piece.
module _ (old_lexer lexer : Standing) (old new : Current) (piece : List ℕ) (used : ℕ) (some : 0 < length piece) (short : old_lexer.count + length piece ≤ 2 ^ 62)
    (sound : IsSound old_lexer old.reading old.games false false None) (within : used ≤ length piece) where
  pub reads_nothing : Scans old_lexer piece lexer used more → old.last ≡ None → old.pending ≡ None → ReadsToken old_lexer old piece lexer old used (Ok None)
  reads_nothing scans last pending = record {
    after = λ p u given stands has_read.
        let scan = scans.carries u (first piece) given stands (follows_own piece) in
        let all : used ≡ length piece = scan.0 in
        let front : take used piece ≡ piece = take_all used piece (omega (arith, all)) in
        let rest : drop used piece ≡ [] = drop_of_length-le piece (omega (arith, all)) in (
          given,
          rw (front, rest) (subst (λ k. StandsAfter lexer (u ++ piece) k given) (still_none (first piece) piece some) scan.1),
          rw (front, rest) (inl (scan.2 some)),
          record { has_read = read_at p (reads_as old_lexer old) given lexer false has_read; gives = sym (append-nil (given_of (read p given).progress)) },
          λ is. absurd (no_marker old last pending is),
        );
    within = within;
    last = (last, pending);
    writing = refl;
    count = scans.count;
    sound = search (rules, false≢true);
    nearer = omega (arith, scans.few, scans.reads.0, some);
  }

  module _ (t : Token) (scans : Scans old_lexer piece lexer used (token t)) where
    few_games : (answer : Result Accepted Reason) → games_added answer ≤ 1
    few_games answer = search rules

    pub reads_item : (i : Option CodeItem) → TakesItem old t.kind new (Ok i) → ReadsToken old_lexer old piece lexer new used (Ok i)
    reads_item i takes = record {
      after = λ p u given stands has_read.
          let scan = scans.carries u (first piece) given stands (follows_own piece) in (
            given ++ t ∷ [],
            scan.0,
            scan.1,
            after_item p old_lexer lexer old new given t has_read i takes,
            λ is. record { before = given; last = t; is_last = refl; is_marker = takes.is_marker is; ends = scans.ends },
          );
      within = within;
      last = takes.last;
      writing = takes.takes.keeps.writing;
      count = scans.count;
      sound = search (rules, few_games, false≢true);
      nearer = omega (arith, scans.advances);
    }

    pub reads_refused : (reason : Reason) → TakesItem old t.kind new (Err reason)
        → ReadsToken old_lexer old piece lexer new used (Err (record { at = t.at; reason = reason }))
    reads_refused reason takes = record {
      after = λ p u given stands has_read.
          let scan = scans.carries u (first piece) given stands (follows_own piece) in
          (given ++ t ∷ [], rejected p old_lexer lexer old new given t has_read reason takes, next_in_piece lexer u piece used scan.0);
      within = within;
      last = takes.last;
      writing = takes.takes.keeps.writing;
      count = scans.count;
      sound = tt;
      nearer = tt;
    }

  pub reads_fault : (f : LexFault) → Scans old_lexer piece lexer used (fault f) → old.last ≡ None → old.pending ≡ None
      → ReadsToken old_lexer old piece lexer old used (Err (record { at = f.at; reason = Lexical f.reason }))
  reads_fault f scans last pending = record {
    after = λ p u given stands has_read.
        let scan = scans.carries u (first piece) given stands (follows_own piece) in (
          given ++ refusal_token f ∷ [],
          rejected_text p given old f has_read.passes,
          λ s. (
            [],
            scan.0 s (subst (λ b. Follows b s) (sym (still_none (first piece) piece some)) tt) ∙ sym (append-nil (given ++ refusal_token f ∷ [])),
          ),
        );
    within = within;
    last = (last, pending);
    writing = refl;
    count = scans.count;
    sound = tt;
    nearer = tt;
  }
