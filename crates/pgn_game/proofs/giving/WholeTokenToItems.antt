-- A token that lies whole in a piece, behind white space and numbers, and what is given for it.
use Rattle.pgn_game.proofs.Words.{◌≡◌, ℕ, ◌+◌, ◌^◌, ◌<◌, ◌≤◌, ◌⊎◌, false, IsTrue, List, [], ◌++◌, ◌*◌, IfOk, waiting, length, take, drop, Option, None, Result, Ok, Err, refl, sym, ap, subst, ◌∙◌, inl, inr, arith, append-nil, append_assoc, take-add, drop-drop, take-append-drop, length-drop, length-take, Kind, Token, Fault, Profile, Part, InMovetext, More, Follows, StandsAfter, first, more, Scans, Standing, read, IsSound, AreNext, Passes, ReadsBehind, Reason, is_passed, over_space, over_token, rules}
use Rattle.pgn_lexer.specs.WholeTokens.{none}
use Rattle.pgn_game.specs.declared.item.Item.{Item as CodeItem}
use Rattle.pgn_game.specs.public.Given.{given_of, given_of_part, given_with}
use Rattle.pgn_game.specs.public.ItemsCalls.{Current}
use Rattle.pgn_game.specs.steps.ItemsSteps.{AfterToken, AfterTokenOf, ReadsToken, TakesItem, reads_as}
use Rattle.pgn_game.proofs.giving.TokenToItems.{no_marker, reads_item, reads_nothing, reads_refused}
use Rattle.pgn_game.proofs.stepping.AcceptedToConverter.{read_at, still_none}
use Rattle.pgn_game.proofs.stepping.PastNumbers.{passed_leads, passes_count, takes_passed}
use Rattle.pgn_game.proofs.stepping.StepsInPiece.{before_any}
use Rattle.pgn_game.proofs.stepping.StepsOverTokens.{sound_past}

follows_one : (xs : List ℕ) → Follows (first xs) (take 1 xs)
follows_one xs = search rules

-- ---- one after the other

-- Where the first bytes give nothing, what is read behind them is read of the piece.
module _ (lexer mid new_lexer : Standing) (old new : Current) (piece : List ℕ) (passed : ℕ) (before : ReadsToken lexer old piece mid old passed (Ok None)) where
  abbrev rest : List ℕ
  rest = drop passed piece

  module _ (count : ℕ) where
    bytes : (u : List ℕ) → (u ++ take passed piece) ++ take count rest ≡ u ++ take (passed + count) piece
    bytes u = append_assoc u (take passed piece) (take count rest) ∙ ap (λ (xs : List ℕ). u ++ xs) (sym (take-add passed count piece))

    ahead : drop count rest ≡ drop (passed + count) piece
    ahead = drop-drop count passed piece

    all : (u : List ℕ) → (u ++ take passed piece) ++ rest ≡ u ++ piece
    all u = append_assoc u (take passed piece) rest ∙ ap (λ (xs : List ℕ). u ++ xs) (take-append-drop passed piece)

    -- what is given is given after the same
    same_item : (p : Profile) (given between tokens : List Token) → given_of (read p between).progress ≡ given_of (read p given).progress
        → (o : Option CodeItem) → AfterToken p between tokens new_lexer new o → AfterToken p given tokens new_lexer new o
    same_item p given between tokens same o after = search rules

    after_behind : (p : Profile) (u : List ℕ) (given between : List Token) → given_of (read p between).progress ≡ given_of (read p given).progress
        → (r : Result (Option CodeItem) Fault)
        → AfterTokenOf p (u ++ take passed piece) between rest new_lexer new count r → AfterTokenOf p u given piece new_lexer new (passed + count) r
    after_behind p u given between same (Ok item) after = search (rules, bytes, ahead, same_item)
    after_behind p u given between same (Err f) after = (
      after.0,
      record { fault = after.1.fault; gives = after.1.gives ∙ same; position = after.1.position },
      subst (λ (v : List ℕ). AreNext v after.0) (all u) after.2,
    )

    fewer : (r : Result (Option CodeItem) Fault) → ReadsToken mid old rest new_lexer new count r
        → IfOk r (λ item. waiting new_lexer < 4 * (passed + count) + waiting lexer)
    fewer r reads = search rules

    pub reads_behind : (r : Result (Option CodeItem) Fault) → ReadsToken mid old rest new_lexer new count r
        → ReadsToken lexer old piece new_lexer new (passed + count) r
    reads_behind r reads = record {
      after = λ p u given stands has_read.
          let here = before.after p u given stands has_read in
          after_behind p u given here.0 (here.3.gives ∙ append-nil (given_of (read p given).progress)) r
          (reads.after p (u ++ take passed piece) here.0 here.1 here.3.has_read);
      within = omega (arith, reads.within, before.within, length-drop passed piece);
      last = reads.last;
      writing = reads.writing;
      count = omega (arith, reads.count, before.count);
      sound = reads.sound;
      nearer = fewer r reads;
    }

-- ---- what is passed gives nothing

-- Nothing is passed, or bytes that give nothing.
abbrev pub Past : Standing → Current → List ℕ → Standing → ℕ → Type 0
Past lexer old piece mid passed = ((passed ≡ 0) × (mid ≡ lexer)) ⊎ ReadsToken lexer old piece mid old passed (Ok None)

pub reads_past : (lexer mid new_lexer : Standing) (old new : Current) (piece : List ℕ) (passed count : ℕ) (r : Result (Option CodeItem) Fault)
    → Past lexer old piece mid passed → ReadsToken mid old (drop passed piece) new_lexer new count r → ReadsToken lexer old piece new_lexer new (passed + count) r
reads_past lexer mid new_lexer old new piece passed count r (inr before) reads = reads_behind lexer mid new_lexer old new piece passed before count r reads
reads_past lexer mid new_lexer old new piece passed count r (inl same) reads = search rules

-- in movetext a number or a period
module _ (c : Current) (last : c.last ≡ None) (pending : c.pending ≡ None) where
  same_items : (part : Part) → part.stage ≡ InMovetext → given_with part.pairs (part.items ++ []) ≡ given_of_part part
  same_items part at = search (rules, append-nil)

  takes_number : (k : Kind) → c.reading.stage ≡ InMovetext → IsTrue (is_passed k) → TakesItem c k c (Ok None)
  takes_number k at passed = record {
    answer = Ok More;
    is = tt;
    takes = takes_passed c.reading k None 0 at passed;
    games = omega arith;
    gives = search (rules, passed_leads, same_items);
    last = (last, pending);
    is_marker = λ is. absurd (no_marker c last pending is);
  }

  -- one byte of white space
  reads_byte : (l new : Standing) (xs : List ℕ) → 0 < length xs → l.count + length xs ≤ 2 ^ 62 → IsSound l c.reading c.games false false None
      → Scans l (take 1 xs) new 1 more → ReadsToken l c xs new c 1 (Ok None)
  reads_byte l new xs some short sound scans =
      let one : 0 < length (take 1 xs) = omega (arith, scans.reads.0) in
      let alone = reads_nothing l new c c (take 1 xs) 1 one (omega (arith, short, length-take 1 xs)) sound (omega (arith, one)) scans last pending in
      record {
        after = λ p u given stands has_read.
            let scan = scans.carries u (first xs) given stands (follows_one xs) in (
              given,
              before_any (subst (λ (b : Option ℕ). StandsAfter new (u ++ take 1 xs) b given) (still_none (first xs) (take 1 xs) one) scan.1),
              inl (scan.2 one),
              record { has_read = read_at p (reads_as l c) given new false has_read; gives = sym (append-nil (given_of (read p given).progress)) },
              λ is. absurd (no_marker c last pending is),
            );
        within = omega (arith, some);
        last = (last, pending);
        writing = refl;
        count = scans.count;
        sound = alone.sound;
        nearer = alone.nearer;
      }

module _ (lexer : Standing) (old : Current) (piece : List ℕ) (last : old.last ≡ None) (pending : old.pending ≡ None)
    (sound : IsSound lexer old.reading old.games false false None) (short : lexer.count + length piece ≤ 2 ^ 62)
    {skips : _} (at : IsTrue skips → old.reading.stage ≡ InMovetext) where
  pub sound_behind : {mid : Standing} {used : ℕ} → Passes skips lexer piece mid used → used ≤ length piece → IsSound mid old.reading old.games false false None
  sound_behind passes within = sound_past lexer old.reading old.games piece sound short at passes within

  pub short_behind : {mid : Standing} {used : ℕ} → Passes skips lexer piece mid used → used ≤ length piece → mid.count + length (drop used piece) ≤ 2 ^ 62
  short_behind {mid} {used} passes within = omega (arith, short, within, passes_count passes, length-drop used piece)

  pub past : {mid : Standing} {used : ℕ} → Passes skips lexer piece mid used → used ≤ length piece → Past lexer old piece mid used
  past none inside = inl (refl, refl)
  past (over_space l new m passes within is_white scans waits) inside =
      let before : m ≤ length piece = omega (arith, within) in
      inr (reads_past lexer l new old old piece m 1 (Ok None) (past passes before)
      (reads_byte old last pending l new (drop m piece) (omega (arith, within, length-drop m piece)) (short_behind passes before) (sound_behind passes before) scans))
  past (over_token l new m count t passes within some scans skipped passed) inside =
      let before : m ≤ length piece = omega (arith, within) in
      inr (reads_past lexer l new old old piece m count (Ok None) (past passes before)
      (reads_item l new old old (drop m piece) count (omega (arith, within, length-drop m piece)) (short_behind passes before) (sound_behind passes before)
      (omega (arith, inside, within, length-drop m piece)) t scans None (takes_number old last pending t.kind (at skipped) passed)))

  pub reads_space : {mid : Standing} {used : ℕ} → Passes skips lexer piece mid used → used ≤ length piece → 0 < used → ReadsToken lexer old piece mid old used (Ok None)
  reads_space {mid} {used} passes within some = by (past passes within)
    where
      by : Past lexer old piece mid used → ReadsToken lexer old piece mid old used (Ok None)
      by h1 = search rules

  -- The piece is read on from there, if there is none.
  pub reads_at_once : {mid : Standing} {used : ℕ} → Passes skips lexer piece mid used → used ≤ length piece → used ≡ 0
      → (new_lexer : Standing) (new : Current) (count : ℕ) (r : Result (Option CodeItem) Fault)
      → ReadsToken mid old piece new_lexer new count r → ReadsToken lexer old piece new_lexer new count r
  reads_at_once {mid} {used} passes within is new_lexer new count r reads =
      let sum : used + count ≡ count = omega (arith, is) in
      subst (λ (n : ℕ). ReadsToken lexer old piece new_lexer new n r) sum
      (reads_past lexer mid new_lexer old new piece used count r (past passes within)
      (subst (λ (n : ℕ). ReadsToken mid old (drop n piece) new_lexer new count r) (sym is) reads))

  -- A token lies whole in the piece.
  module _ (new_lexer : Standing) (new : Current) (used : ℕ) (t : Token) (within : used ≤ length piece) (behind : ReadsBehind skips lexer piece new_lexer used t) where
    abbrev there : List ℕ
    there = drop behind.passed piece

    inside : behind.passed ≤ length piece
    inside = omega (arith, behind.within)

    some_there : 0 < length there
    some_there = omega (arith, length-drop behind.passed piece, behind.within)

    within_there : behind.count ≤ length there
    within_there = omega (arith, within, behind.all, length-drop behind.passed piece, behind.within)

    reads_there : (r : Result (Option CodeItem) Fault) → ReadsToken behind.mid old there new_lexer new behind.count r
        → ReadsToken lexer old piece new_lexer new used r
    reads_there r reads =
        subst (λ (n : ℕ). ReadsToken lexer old piece new_lexer new n r) (sym behind.all)
        (reads_past lexer behind.mid new_lexer old new piece behind.passed behind.count r (past behind.passes inside) reads)

    pub reads_whole_item : (i : Option CodeItem) → TakesItem old t.kind new (Ok i) → ReadsToken lexer old piece new_lexer new used (Ok i)
    reads_whole_item i takes = search (rules, reads_there, reads_item, some_there, short_behind, inside, sound_behind, within_there)

    pub reads_whole_refused : (reason : Reason) → TakesItem old t.kind new (Err reason)
        → ReadsToken lexer old piece new_lexer new used (Err (record { at = t.at; reason = reason }))
    reads_whole_refused reason takes = search (rules, reads_there, reads_refused, some_there, short_behind, inside, sound_behind, within_there)
