-- The numbers of a rank, written as its text.
use Rattle.chess_text.proofs.Words.{Option, at, drop, row, square, subst, ◌≡◌, ℕ, zero, suc, ◌+◌, ◌-◌, ◌/◌, ◌<◌, ◌≤◌, List, [], ◌∷◌, ◌++◌, length, append_assoc, append-nil, ap, ap₂, sym, ◌∙◌, arith, length-append, Board, Piece, piece_letter, rank_text, run_text, ◌==◌, false, refl, None, Some, nat_tests, get_or, set, take, take_more_set, common_steps, ◌%◌, take-set, length-set}
use Rattle.chess_rules.specs.RankNumbers.{number_of_piece, numbers, word_of_bytes}
use Rattle.chess_text.proofs.positions.BoardToText.{drop-row}

-- the bytes of the numbers
abbrev pub table : List ℕ
table = 45 ∷ 82 ∷ 66 ∷ 81 ∷ 80 ∷ 78 ∷ 75 ∷ 45 ∷ 45 ∷ 114 ∷ 98 ∷ 113 ∷ 112 ∷ 110 ∷ 107 ∷ 45 ∷ 49 ∷ 50 ∷ 51 ∷ 52 ∷ 53 ∷ 54 ∷ 55 ∷ 56 ∷ []

pub letter_there : (x : Piece) → get_or table (number_of_piece x) 0 ≡ piece_letter x
letter_there x = grind arith

pub digit_there : (n : ℕ) → n < 8 → get_or table (16 + n) 0 ≡ 49 + n
digit_there (suc (suc (suc (suc (suc (suc (suc (suc n)))))))) h = absurd (omega arith)
digit_there n h = refl

pub piece_is_small : (x : Piece) → number_of_piece x < 15
piece_is_small x = grind arith

-- How a text is written of which `whole` is to be the beginning: what is before the run of empty
-- squares that ends at this place, how long that run is, and the numbers of the cells from here on.
pub record RankWritten (whole : List ℕ) (most : ℕ) (text : List ℕ) (end word : ℕ) (cells : Board) : Type 0 where
  pub before : List ℕ
  pub run : ℕ
  pub front : take (length before) text ≡ before
  pub so_far : take end text ≡ before ++ run_text run
  pub place : end ≡ length before + length (run_text run)
  pub rest : before ++ rank_text run cells ≡ whole
  pub next : word ≡ word_of_bytes (numbers run cells)
  pub short : run + length cells ≤ 8
  pub within : end + length cells ≤ most
  pub long : most ≤ length text

some_run : (n : ℕ) → run_text (n + 1) ≡ (49 + n) ∷ []
some_run n = let some : (n + 1 == 0) ≡ false = grind (arith, nat_tests) in rw some (let same : 48 + (n + 1) ≡ 49 + n = omega arith in ap (λ (k : ℕ). k ∷ []) same)

-- What the lowest byte is.

module _ (word : ℕ) (x : Piece) (cells : Board) where
  piece_first : word ≡ word_of_bytes (numbers 0 (Some x ∷ cells)) → word % 256 ≡ number_of_piece x
  piece_first h = omega (arith, h, piece_is_small x)

  piece_rest : word ≡ word_of_bytes (numbers 0 (Some x ∷ cells)) → word / 256 ≡ word_of_bytes (numbers 0 cells)
  piece_rest h = omega (arith, h, piece_is_small x)

module _ (word n : ℕ) (cells : Board) where
  run_first : n < 8 → word ≡ word_of_bytes (numbers n (None ∷ cells)) → word % 256 ≡ 16 + n
  run_first low h = omega (arith, h)

  run_rest : n < 8 → word ≡ word_of_bytes (numbers n (None ∷ cells)) → word / 256 ≡ word_of_bytes (numbers (n + 1) cells)
  run_rest low h = omega (arith, h)

-- One square more.

-- what a square adds to the place where the text ends, and the byte that it stores
pub record Step (word more byte : ℕ) : Type 0 where
  pub few : more ≤ 1
  pub adds : word % 256 ≤ 16 → more ≡ 1
  pub stays : 16 < word % 256 → more ≡ 0
  pub letter : (x : Piece) → word % 256 ≡ number_of_piece x → byte ≡ piece_letter x
  pub digit : (n : ℕ) → n < 8 → word % 256 ≡ 16 + n → byte ≡ 49 + n

module _ (whole : List ℕ) (most : ℕ) (text : List ℕ) (end word : ℕ) (cells : Board) where
  pub number_is_small : (x : Option Piece) → RankWritten whole most text end word (x ∷ cells) → word % 256 < 24
  number_is_small None w = omega (arith, run_first word w.run cells (omega (arith, w.short)) w.next)
  number_is_small (Some x) w = omega (arith, piece_first word x cells w.next, piece_is_small x)

  -- the digit of a run goes behind what is before the run
  end_of_run : (more byte : ℕ) (w : RankWritten whole most text end word (None ∷ cells)) → Step word more byte
      → end + more ≡ length w.before + 1
  end_of_run more byte w s = grind (arith, common_steps, run_first, zero)

  empty_written : (more byte : ℕ) → Step word more byte → RankWritten whole most text end word (None ∷ cells)
      → RankWritten whole most (set text (end + more - 1) byte) (end + more) (word / 256) cells
  empty_written more byte s w =
      let low : w.run < 8 = omega (arith, w.short) in
      let ends = end_of_run more byte w s in
      let there : end + more - 1 ≡ length w.before = omega (arith, ends) in
      let digit : byte ≡ 49 + w.run = s.digit w.run low (run_first word w.run cells low w.next) in
      let inside : length w.before < length text = omega (arith, w.place, w.within, w.long) in
      record {
        before = w.before;
        run = w.run + 1;
        front = ap (λ k. take (length w.before) (set text k byte)) there ∙ take-set text (length w.before) byte ∙ w.front;
        so_far =
            ap₂ (λ n k. take n (set text k byte)) ends there ∙ take_more_set text (length w.before) byte inside
            ∙ ap₂ (λ t b. t ++ b ∷ []) w.front digit ∙ ap (λ t. w.before ++ t) (sym (some_run w.run));
        place = omega (arith, ends, ap length (some_run w.run));
        rest = w.rest;
        next = run_rest word w.run cells low w.next;
        short = omega (arith, w.short);
        within = omega (arith, w.within, s.few);
        long = omega (arith, w.long, length-set text (end + more - 1) byte);
      }

  piece_written : (x : Piece) (more byte : ℕ) → Step word more byte → RankWritten whole most text end word (Some x ∷ cells)
      → RankWritten whole most (set text (end + more - 1) byte) (end + more) (word / 256) cells
  piece_written x more byte s w =
      let first : word % 256 ≡ number_of_piece x = piece_first word x cells w.next in
      let one : more ≡ 1 = s.adds (omega (arith, first, piece_is_small x)) in
      let ends : end + more ≡ end + 1 = omega (arith, one) in
      let there : end + more - 1 ≡ end = omega (arith, one) in
      let letter : byte ≡ piece_letter x = s.letter x first in
      let run = run_text w.run in
      let before = (w.before ++ run) ++ piece_letter x ∷ [] in
      let stored : take (end + more) (set text (end + more - 1) byte) ≡ before =
      ap₂ (λ n k. take n (set text k byte)) ends there ∙ take_more_set text end byte (omega (arith, w.within, w.long))
      ∙ ap₂ (λ t b. t ++ b ∷ []) w.so_far letter in
      let size : length before ≡ end + more =
      omega (arith, length-append (w.before ++ run) (piece_letter x ∷ []), length-append w.before run, w.place, one) in
      record {
        before = before;
        run = 0;
        front = ap (λ n. take n (set text (end + more - 1) byte)) size ∙ stored;
        so_far = stored ∙ sym (append-nil before);
        place = omega (arith, size);
        rest =
            append_assoc (w.before ++ run) (piece_letter x ∷ []) (rank_text 0 cells)
            ∙ append_assoc w.before run (piece_letter x ∷ rank_text 0 cells) ∙ w.rest;
        next = piece_rest word x cells w.next;
        short = omega (arith, w.short);
        within = omega (arith, w.within, s.few);
        long = omega (arith, w.long, length-set text (end + more - 1) byte);
      }

  pub square_written : (x : Option Piece) (more byte : ℕ) → Step word more byte → RankWritten whole most text end word (x ∷ cells)
      → RankWritten whole most (set text (end + more - 1) byte) (end + more) (word / 256) cells
  square_written None more byte s w = empty_written more byte s w
  square_written (Some x) more byte s w = piece_written x more byte s w

  -- a byte is stored within the text
  pub stored_within : (x : Option Piece) (more byte : ℕ) → Step word more byte
      → RankWritten whole most text end word (x ∷ cells) → (1 ≤ end + more) × (end + more ≤ length text)
  stored_within x more byte s w = grind (arith, common_steps, end_of_run, piece_first, piece_is_small)

-- the squares that are left of a rank begin with that of this file
pub next_square : {whole : List ℕ} {most : ℕ} {text : List ℕ} {end word : ℕ} (b : Board) (rank file : ℕ) → file < 8
    → RankWritten whole most text end word (drop file (row b rank))
    → RankWritten whole most text end word (at b (square file rank) ∷ drop (file + 1) (row b rank))
next_square {whole} {most} {text} {end} {word} b rank file low w = subst (RankWritten whole most text end word) (drop-row b rank file low) w

-- Ranks that have the same numbers have the same text.

same_letter : (x y : Piece) → number_of_piece x ≡ number_of_piece y → piece_letter x ≡ piece_letter y
same_letter x y e = sym (letter_there x) ∙ ap (λ n. get_or table n 0) e ∙ letter_there y

pub same_text : (word n : ℕ) (cells others : Board) → length cells ≡ length others → n + length cells ≤ 8
    → word ≡ word_of_bytes (numbers n cells) → word ≡ word_of_bytes (numbers n others) → rank_text n cells ≡ rank_text n others
same_text word n [] [] e low h g = refl
same_text word n (None ∷ cells) (None ∷ others) e low h g =
    same_text (word / 256) (n + 1) cells others (omega (arith, e)) (omega (arith, low))
    (run_rest word n cells (omega (arith, low)) h) (run_rest word n others (omega (arith, low)) g)
same_text word n (Some x ∷ cells) (Some y ∷ others) e low h g =
    cc (
      same_letter x y (sym (piece_first word x cells h) ∙ piece_first word y others g),
      same_text (word / 256) 0 cells others (omega (arith, e)) (omega (arith, low)) (piece_rest word x cells h) (piece_rest word y others g),
    )
same_text word n (None ∷ cells) (Some y ∷ others) e low h g = grind (arith, common_steps, run_first, piece_first, piece_is_small)
same_text word n (Some x ∷ cells) (None ∷ others) e low h g = grind (arith, common_steps, run_first, piece_first, piece_is_small)
same_text word n [] (y ∷ others) e low h g = absurd (omega (arith, e))
same_text word n (x ∷ cells) [] e low h g = absurd (omega (arith, e))
