-- The definitions, computed on worked texts.
use Prim.Native.String.{String}
use Rattle.chess_text.proofs.Words.{◌≡◌, ℕ, List, [], Result, Ok, Err, refl, codes, digits, Parts, squares, initial, FenFault, read, fen_text}

-- the field at fault, or 0
abbrev fault : Result Parts FenFault → ℕ
fault (Ok p) = 0
fault (Err f) = f.field

abbrev fault_of : String → ℕ
fault_of s = fault (read (codes s))

-- the canonical text of what is read; nothing where nothing is
abbrev written : Result Parts FenFault → List ℕ
written (Ok p) = fen_text p
written (Err f) = []

abbrev written_of : String → List ℕ
written_of s = written (read (codes s))

faults_of_texts : Unit {0}
unfolding squares
faults_of_texts =
    let empty : fault_of "" ≡ 1 = refl in
    let nine : fault_of "9/8/8/8/8/8/8/8 w - - 0 1" ≡ 1 = refl in
    let side : fault_of "4k3/8/8/8/8/8/8/4K3 x - - 0 1" ≡ 2 = refl in
    let missing_rights : fault_of "4k3/8/8/8/8/8/8/4K3 w" ≡ 3 = refl in
    let rights_order : fault_of "4k3/8/8/8/8/8/8/4K3 w qK - 0 1" ≡ 3 = refl in
    let target_rank_four : fault_of "4k3/8/8/8/8/8/8/4K3 w - e4 0 1" ≡ 4 = refl in
    let half_long : fault_of "4k3/8/8/8/8/8/8/4K3 w - - 100000 1" ≡ 5 = refl in
    let missing_full : fault_of "4k3/8/8/8/8/8/8/4K3 w - - 0" ≡ 6 = refl in
    let trailing_space : fault_of "4k3/8/8/8/8/8/8/4K3 w - - 0 1 " ≡ 6 = refl in
    let no_kings : fault_of "8/8/8/8/8/8/8/8 w - - 0 1" ≡ 7 = refl in
    let pawn_on_one : fault_of "4k3/8/8/8/8/8/8/4K2P w - - 0 1" ≡ 7 = refl in
    let capturable : fault_of "4k3/8/8/8/4R3/8/8/4K3 w - - 0 1" ≡ 7 = refl in
    let target_side : fault_of "4k3/8/8/8/8/8/8/4K3 w - e3 0 1" ≡ 7 = refl in
    let seven_ranks : fault_of "4k3/8/8/8/8/8/4K3 w - - 0 1" ≡ 1 = refl in
    let nine_ranks : fault_of "4k3/8/8/8/8/8/8/4K3/8 w - - 0 1" ≡ 1 = refl in
    let rank_of_nine : fault_of "4k31/8/8/8/8/8/8/4K3 w - - 0 1" ≡ 1 = refl in
    let rank_of_seven : fault_of "4k2/8/8/8/8/8/8/4K3 w - - 0 1" ≡ 1 = refl in
    let zero_run : fault_of "04k3/8/8/8/8/8/8/4K3 w - - 0 1" ≡ 1 = refl in
    let other_letter : fault_of "4x3/8/8/8/8/8/8/4K3 w - - 0 1" ≡ 1 = refl in
    let last_slash : fault_of "4k3/8/8/8/8/8/8/4K3/ w - - 0 1" ≡ 1 = refl in
    let two_spaces : fault_of "4k3/8/8/8/8/8/8/4K3  w - - 0 1" ≡ 2 = refl in
    let first_space : fault_of " 4k3/8/8/8/8/8/8/4K3 w - - 0 1" ≡ 1 = refl in
    let capital_side : fault_of "4k3/8/8/8/8/8/8/4K3 W - - 0 1" ≡ 2 = refl in
    let right_twice : fault_of "4k3/8/8/8/8/8/8/4K3 w KK - 0 1" ≡ 3 = refl in
    let dash_and_right : fault_of "4k3/8/8/8/8/8/8/4K3 w -K - 0 1" ≡ 3 = refl in
    let no_rights : fault_of "4k3/8/8/8/8/8/8/4K3 w  - 0 1" ≡ 3 = refl in
    let target_of_file_i : fault_of "4k3/8/8/8/8/8/8/4K3 w - i6 0 1" ≡ 4 = refl in
    let target_of_three_bytes : fault_of "4k3/8/8/8/8/8/8/4K3 w - e66 0 1" ≡ 4 = refl in
    let file_alone : fault_of "4k3/8/8/8/8/8/8/4K3 w - e 0 1" ≡ 4 = refl in
    let half_with_sign : fault_of "4k3/8/8/8/8/8/8/4K3 w - - +1 1" ≡ 5 = refl in
    let no_half : fault_of "4k3/8/8/8/8/8/8/4K3 w - -  1" ≡ 5 = refl in
    let number_with_letter : fault_of "4k3/8/8/8/8/8/8/4K3 w - - 0 1x" ≡ 6 = refl in
    let seventh_field : fault_of "4k3/8/8/8/8/8/8/4K3 w - - 0 1 x" ≡ 6 = refl in
    let lower_field_first : fault_of "4k3/8/8/8/8/8/8/4K3 x qK e4 a b" ≡ 2 = refl in
    tt

texts_of_what_is_read : Unit {0}
unfolding squares digits
texts_of_what_is_read =
    let rights_kept : written_of "4k3/8/8/8/8/8/8/4K3 w KQkq - 0 1" ≡ codes "4k3/8/8/8/8/8/8/4K3 w KQkq - 0 1" = refl in
    let lenient : written_of "4k3/44/8/8/8/8/8/4K3 w - - 00 001" ≡ codes "4k3/8/8/8/8/8/8/4K3 w - - 0 1" = refl in
    let ones : written_of "4k3/8/11111111/8/8/8/8/4K3 w - - 0 1" ≡ codes "4k3/8/8/8/8/8/8/4K3 w - - 0 1" = refl in
    let white_target : written_of "4k3/8/8/8/8/8/8/4K3 w Qk a6 7 30" ≡ codes "4k3/8/8/8/8/8/8/4K3 w Qk a6 7 30" = refl in
    let black_target : written_of "4k3/8/8/8/8/8/8/4K3 b q h3 99999 00010" ≡ codes "4k3/8/8/8/8/8/8/4K3 b q h3 99999 10" = refl in
    let rich : written_of "r3k2r/p1ppqpb1/bn2pnp1/3PN3/1p2P3/2N2Q1p/PPPBBPPP/R3K2R w KQkq - 0 1"
    ≡ codes "r3k2r/p1ppqpb1/bn2pnp1/3PN3/1p2P3/2N2Q1p/PPPBBPPP/R3K2R w KQkq - 0 1" = refl in
    let first_read : read (codes "rnbqkbnr/pppppppp/8/8/8/8/PPPPPPPP/RNBQKBNR w KQkq - 0 1") ≡ Ok initial = refl in
    let first_written : fen_text initial ≡ codes "rnbqkbnr/pppppppp/8/8/8/8/PPPPPPPP/RNBQKBNR w KQkq - 0 1" = refl in
    tt
