-- What the code keeps of a text has what is seen of the text.
use Rattle.std.proofs.Common.{rules}
use Rattle.pgn_sections.proofs.Words.{and-true, and-false, common_steps, ◌≡◌, ℕ, ◌+◌, ◌≤◌, Bool, true, false, List, [], ◌∷◌, ◌++◌, Option, Some, length, drop, refl, sym, ◌∙◌, ap, ap₂, arith, drop_all, length-append, ◌&&◌, ◌==◌, if◌then◌else◌, codes, cons_option, ends_with, comment_after, is_closed, last_word, open_comment, outside_byte, outside_text, without_comments, begun, shape_over, text_of_shape, comment_in, comment_of, fronts_with, has_marker, no_fronts, outside_of, shape_with_seen, text_from, text_with, word_with, word_with_seen, Shape, Text}
use lib.Pointwise.{pointwise}
use Rattle.pgn_sections.proofs.ShapeOfText.{text_is}
use Rattle.pgn_sections.specs.declared.outside.Comment.{Comment}
use Rattle.pgn_sections.specs.declared.text.MarkerFronts.{MarkerFronts}
use Rattle.pgn_sections.specs.declared.text.Word.{Word}

-- with the bytes of a text, from a place on
abbrev pub text_over : Text → ℕ → List ℕ → Text
text_over t p [] = t
text_over t p (b ∷ s) = text_over (text_with t p b) (p + 1) s

comment_at_end : (c : Comment) (o : Option ℕ) (p : ℕ) → comment_in c o ≡ open_comment c o p []
comment_at_end c o p = grind (arith, common_steps)

comment_behind : (c : Comment) (o : Option ℕ) (p b : ℕ) (s : List ℕ)
    → open_comment (comment_after c b) (if is_closed c && (b == 123) then Some p else o) (p + 1) s ≡ open_comment c o p (b ∷ s)
comment_behind c o p b s = grind (arith, common_steps)

pub comment_is : (t : Text) (p : ℕ) (s : List ℕ) → comment_of (text_over t p s) ≡ open_comment t.comment t.comment_at p s
comment_is t p [] = comment_at_end t.comment t.comment_at p
comment_is t p (b ∷ s) = comment_is (text_with t p b) (p + 1) s ∙ comment_behind t.comment t.comment_at p b s

shape_behind : (a : Shape) (o : Option ℕ) (s : List ℕ) → shape_over (shape_with_seen a o) s ≡ shape_over a (cons_option o s)
shape_behind a o s = grind (arith, common_steps)

shape_is : (t : Text) (p : ℕ) (s : List ℕ) → (text_over t p s).shape ≡ shape_over t.shape (without_comments t.comment s)
shape_is t p [] = refl
shape_is t p (b ∷ s) =
    shape_is (text_with t p b) (p + 1) s ∙ shape_behind t.shape (outside_byte t.comment b) (without_comments (comment_after t.comment b) s)

abbrev word_over : Word → List ℕ → Word
word_over w [] = w
word_over w (b ∷ s) = word_over (word_with w b) s

word_behind : (w : Word) (o : Option ℕ) (s : List ℕ) → word_over (word_with_seen w o) s ≡ word_over w (cons_option o s)
word_behind w o s = grind (arith, common_steps)

word_is : (t : Text) (p : ℕ) (s : List ℕ) → (text_over t p s).word ≡ word_over t.word (without_comments t.comment s)
word_is t p [] = refl
word_is t p (b ∷ s) =
    word_is (text_with t p b) (p + 1) s ∙ word_behind t.word (outside_byte t.comment b) (without_comments (comment_after t.comment b) s)

-- A text with one byte more ends with another with one byte more, if it ends with this, and the
-- bytes are the same.

same_both : (a b : ℕ) → (a == b) ≡ (b == a)
same_both a b = grind (arith, common_steps)

and_and : (t u v : Bool) → (t && (u && v)) ≡ ((t && u) && v)
and_and t u v = grind (arith, common_steps)

both_longer : (p v : List ℕ) (c b : ℕ) → pointwise ◌==◌ (p ++ c ∷ []) (v ++ b ∷ []) ≡ (pointwise ◌==◌ p v && (b == c))
both_longer [] [] c b = and-true (c == b) ∙ same_both c b
both_longer [] (x ∷ []) c b = and-false (c == x)
both_longer [] (x ∷ y ∷ v) c b = and-false (c == x)
both_longer (x ∷ []) [] c b = and-false (x == b)
both_longer (x ∷ y ∷ p) [] c b = and-false (x == b)
both_longer (x ∷ p) (y ∷ v) c b = ap (λ (t : Bool). (x == y) && t) (both_longer p v c b) ∙ and_and (x == y) (pointwise ◌==◌ p v) (b == c)

drop_longer : (n : ℕ) (v : List ℕ) (b : ℕ) → n ≤ length v → drop n (v ++ b ∷ []) ≡ drop n v ++ b ∷ []
drop_longer n v b h = grind (arith, common_steps)

ends_longer : (v p : List ℕ) (b c : ℕ) → ends_with ◌==◌ (v ++ b ∷ []) (p ++ c ∷ []) ≡ (ends_with ◌==◌ v p && (b == c))
ends_longer v p b c = grind (arith, common_steps, length, length-append, drop_longer, both_longer)

ends_with_none : (v : List ℕ) → ends_with ◌==◌ v [] ≡ true
ends_with_none v = grind (arith, common_steps, drop_all, length)

ends_with_byte : (v : List ℕ) (b c : ℕ) → ends_with ◌==◌ (v ++ b ∷ []) (c ∷ []) ≡ (b == c)
ends_with_byte v b c = ends_longer v [] b c ∙ ap (λ (t : Bool). t && (b == c)) (ends_with_none v)

-- with which fronts of termination markers a word ends
abbrev fronts_of : List ℕ → MarkerFronts
fronts_of v =
    record {
      one = ends_with ◌==◌ v (codes "1");
      one_dash = ends_with ◌==◌ v (codes "1-");
      white_wins = ends_with ◌==◌ v (codes "1-0");
      zero = ends_with ◌==◌ v (codes "0");
      zero_dash = ends_with ◌==◌ v (codes "0-");
      black_wins = ends_with ◌==◌ v (codes "0-1");
      one_slash = ends_with ◌==◌ v (codes "1/");
      half = ends_with ◌==◌ v (codes "1/2");
      half_dash = ends_with ◌==◌ v (codes "1/2-");
      half_one = ends_with ◌==◌ v (codes "1/2-1");
      half_slash = ends_with ◌==◌ v (codes "1/2-1/");
      draw = ends_with ◌==◌ v (codes "1/2-1/2");
      asterisk = ends_with ◌==◌ v (codes "*");
    }

fronts_longer : (v : List ℕ) (b : ℕ) → fronts_with (fronts_of v) b ≡ fronts_of (v ++ b ∷ [])
fronts_longer v b =
    let one = ends_with_byte v b 49 in
    let one_dash = ends_longer v (codes "1") b 45 in
    let white_wins = ends_longer v (codes "1-") b 48 in
    let zero = ends_with_byte v b 48 in
    let zero_dash = ends_longer v (codes "0") b 45 in
    let black_wins = ends_longer v (codes "0-") b 49 in
    let one_slash = ends_longer v (codes "1") b 47 in
    let half = ends_longer v (codes "1/") b 50 in
    let half_dash = ends_longer v (codes "1/2") b 45 in
    let half_one = ends_longer v (codes "1/2-") b 49 in
    let half_slash = ends_longer v (codes "1/2-1") b 47 in
    let draw = ends_longer v (codes "1/2-1/") b 50 in
    let asterisk = ends_with_byte v b 42 in
    λ i. record {
      one = sym one i;
      one_dash = sym one_dash i;
      white_wins = sym white_wins i;
      zero = sym zero i;
      zero_dash = sym zero_dash i;
      black_wins = sym black_wins i;
      one_slash = sym one_slash i;
      half = sym half i;
      half_dash = sym half_dash i;
      half_one = sym half_one i;
      half_slash = sym half_slash i;
      draw = sym draw i;
      asterisk = sym asterisk i;
    }

abbrev word_of : List ℕ → Bool → Word
word_of v is_ended = record { fronts = fronts_of v; is_ended = is_ended }

-- one byte more: white space, the first byte of a word, or a further one
fronts_behind : (is_blank is_ended : Bool) (v : List ℕ) (b : ℕ) (s : List ℕ)
    → (word_over (word_of v true) s).fronts ≡ fronts_of (last_word v true s)
    → (word_over (word_of (b ∷ []) false) s).fronts ≡ fronts_of (last_word (b ∷ []) false s)
    → (word_over (word_of (v ++ b ∷ []) false) s).fronts ≡ fronts_of (last_word (v ++ b ∷ []) false s)
    → (word_over (if is_blank then word_of v true else record { fronts = fronts_with (if is_ended then no_fronts else fronts_of v) b; is_ended = false }) s).fronts
    ≡ fronts_of (if is_blank then last_word v true s else last_word (if is_ended then b ∷ [] else v ++ b ∷ []) false s)
fronts_behind is_blank is_ended v b s blank first further = search (rules, fronts_longer)

fronts_are : (v : List ℕ) (is_ended : Bool) (s : List ℕ) → (word_over (word_of v is_ended) s).fronts ≡ fronts_of (last_word v is_ended s)
fronts_are v is_ended [] = refl
fronts_are v is_ended (b ∷ s) = grind (arith, common_steps, fronts_behind, (fronts_are v true s), (fronts_are (b ∷ []) false s), (fronts_are (v ++ b ∷ []) false s))

pub outside_is : (c : Comment) (o : Option ℕ) (p : ℕ) (s : List ℕ)
    → outside_of (text_over (text_from c o) p s) ≡ outside_text (without_comments c s)
outside_is c o p s =
    ap₂ (λ (a : Shape) (w : Word). text_of_shape a (has_marker w.fronts)) (shape_is (text_from c o) p s) (word_is (text_from c o) p s)
    ∙ ap (λ (f : MarkerFronts). text_of_shape (shape_over begun (without_comments c s)) (has_marker f)) (fronts_are [] true (without_comments c s))
    ∙ text_is (without_comments c s)
