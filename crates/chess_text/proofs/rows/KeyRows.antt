-- Keys of worked positions, computed.
use Prim.Native.String.{String}
use Rattle.chess_text.proofs.Words.{◌≡◌, ℕ, List, [], Result, Ok, Err, refl, codes, Parts, squares, FenFault, read, position_key, key_pairs}

abbrev key_in : Result Parts FenFault → List ℕ
key_in (Ok p) = position_key p
key_in (Err f) = []

abbrev HasKey : String → String → Type 0
HasKey fen key = key_in (read (codes fen)) ≡ codes key

abbrev pairs_in : Result Parts FenFault → ℕ
pairs_in (Ok p) = key_pairs p
pairs_in (Err f) = 99

keys : Unit {0}
unfolding squares
keys =
    let none_near : HasKey "4k3/8/8/8/4P3/8/8/4K3 b - e3 0 1" "4k3/8/8/8/4P3/8/8/4K3 b - -" = refl in
    let one_takes : HasKey "4k3/8/8/8/3pP3/8/8/4K3 b - e3 0 1" "4k3/8/8/8/3pP3/8/8/4K3 b - e3" = refl in
    let bares_the_king : HasKey "8/8/8/8/k2Pp2Q/8/8/3K4 b - d3 0 1" "8/8/8/8/k2Pp2Q/8/8/3K4 b - -" = refl in
    let rook_gone : HasKey "r3k3/8/8/8/8/8/8/R3K2R w KQkq - 5 9" "r3k3/8/8/8/8/8/8/R3K2R w KQq -" = refl in
    let two_tried : pairs_in (read (codes "3rk3/8/8/3PpP2/8/8/8/3K4 w - e6 0 1")) ≡ 2 = refl in
    tt
