-- The forms of worked texts.
use Prim.Native.String.{String}
use Rattle.chess_text.proofs.Words.{◌≡◌, ℕ, true, false, Option, None, Some, refl, codes, Kind, King, Queen, Rook, Bishop, Knight, Pawn, Promotion, Square, square, Form, Castle, Man, Spells, is_form, form_of}
use Rattle.chess_rules.specs.declared.piece.Promotion.TheVariants as promotions

-- to a square, with no promotion
abbrev to : Kind → Option ℕ → Option ℕ → Square → Option Form
to k file rank t = Some (Man k file rank t None)

abbrev becoming : Option ℕ → Square → Promotion → Option Form
becoming file t q = Some (Man Pawn file None t (Some q))

abbrev reads : String → Option Form
reads s = form_of (codes s)

texts_of_forms : Unit {0}
texts_of_forms =
    let pawn : reads "e4" ≡ to Pawn None None (square 4 3) = refl in
    let pawn_by_letter : reads "Pe4" ≡ to Pawn None None (square 4 3) = refl in
    let knight : reads "Ng1f3" ≡ to Knight (Some 6) (Some 0) (square 5 2) = refl in
    let promotion : reads "exd8=Q+" ≡ becoming (Some 4) (square 3 7) promotions.Queen = refl in
    let bare_promotion : reads "ed8Q" ≡ becoming (Some 4) (square 3 7) promotions.Queen = refl in
    let to_rook : reads "a1=R" ≡ becoming None (square 0 0) promotions.Rook = refl in
    let to_bishop : reads "h1B" ≡ becoming None (square 7 0) promotions.Bishop = refl in
    let to_knight : reads "Pgxh8=N#" ≡ becoming (Some 6) (square 7 7) promotions.Knight = refl in
    let many_marks : reads "R1xa3##+" ≡ to Rook None (Some 0) (square 0 2) = refl in
    let both_squares : reads "e2e4" ≡ to Pawn (Some 4) (Some 1) (square 4 3) = refl in
    let rank_alone : reads "2e4" ≡ to Pawn None (Some 1) (square 4 3) = refl in
    let whole_square : reads "Qh4xe1" ≡ to Queen (Some 7) (Some 3) (square 4 0) = refl in
    let file_hint : reads "Bbc3" ≡ to Bishop (Some 1) None (square 2 2) = refl in
    let pawn_of_file_b : reads "bc3" ≡ to Pawn (Some 1) None (square 2 2) = refl in
    let rook_ends_promotion : reads "Rd1R" ≡ Some (Man Rook None None (square 3 0) (Some promotions.Rook)) = refl in
    let king : reads "Kg1" ≡ to King None None (square 6 0) = refl in
    let long_with_mark : reads "0-0-0#" ≡ Some (Castle true) = refl in
    let short : reads "O-O" ≡ Some (Castle false) = refl in
    let long : reads "O-O-O" ≡ Some (Castle true) = refl in
    let short_of_zeros : reads "0-0++" ≡ Some (Castle false) = refl in
    tt

texts_of_no_form : Unit {0}
texts_of_no_form =
    let empty : reads "" ≡ None = refl in
    let marks_alone : reads "+#" ≡ None = refl in
    let rank_nine : reads "e9" ≡ None = refl in
    let file_i : reads "i4" ≡ None = refl in
    let dash : reads "N-f3" ≡ None = refl in
    let letter_and_zero : reads "O-0" ≡ None = refl in
    let thrice_and_once : reads "O-O-O-O" ≡ None = refl in
    let to_king : reads "e8=K" ≡ None = refl in
    let small_promotion : reads "e8=q" ≡ None = refl in
    let sign_alone : reads "e8=" ≡ None = refl in
    let two_signs : reads "e8==Q" ≡ None = refl in
    let ends_in_x : reads "e4x" ≡ None = refl in
    let two_x : reads "exxd5" ≡ None = refl in
    let mark_inside : reads "e4+e5" ≡ None = refl in
    let rank_before_file : reads "N1gf3" ≡ None = refl in
    let two_digits : reads "12e4" ≡ None = refl in
    let small_letter : reads "nf3" ≡ None = refl in
    let two_letters : reads "NNf3" ≡ None = refl in
    let space : reads "N f3" ≡ None = refl in
    let letter_alone : reads "N" ≡ None = refl in
    let file_alone : reads "e" ≡ None = refl in
    let en_passant_words : reads "exd6e.p." ≡ None = refl in
    tt

-- the same by the pattern
pattern : Spells (codes "Qh4xe1+#") (Man Queen (Some 7) (Some 3) (square 4 0) None)
pattern =
    record {
      bare = codes "Qh4xe1";
      marks = codes "+#";
      joined = refl;
      spells_bare = record { letters = codes "Q"; capture = codes "x"; promoted = codes ""; joined = refl; letters_fit = refl; capture_fits = refl; promoted_fits = refl };
      marks_alone = refl;
    }

-- a file beyond the board would be an x: such are no forms
no_form : is_form (Man Queen (Some 23) None (square 4 0) None) ≡ false
no_form = refl
