-- Where a game begins, from its pairs.
use Rattle.pgn_game.proofs.Words.{◌≡◌, ℕ, ◌&&◌, Bool, true, false, not, List, Option, None, Some, refl, codes, bytes_eq, is_ok, is_some, unwrap_or, IsTrue, Result, Ok, Err, FenFault, not-false, position_of, Parts, Pair, has_pair, insert_pair, start_of, fen_fault_field, fen_field, fen_position, arith, rules}
use Rattle.chess_text.specs.Fen.{read as read_text}
use Rattle.pgn_game.proofs.pairs.ValuesByName.{pick, value_of-put, value_of-insert, bytes_eq-true, bytes_eq-refl}

-- what a pair tells of where its game begins, from whether it is a FEN, and from what its value is
-- read as
abbrev pub told_by : Bool → Result Parts FenFault → Result (Option Parts) ℕ
told_by is read = elim is [ false ↦ Ok None | true ↦ elim read [ Ok start ↦ Ok (Some start) | Err fault ↦ Err fault.field ] ]

is_position : (value : List ℕ) → read_text value ≡ position_of value
unfolding position_of
is_position value = refl

pub told_read : (name value : List ℕ) (read : Result Parts FenFault) → not (bytes_eq name (codes "FEN")) ≡ false
    → read ≡ read_text value → fen_position name value ≡ told_by true read
told_read name value read named reads = cc (not-false (bytes_eq name (codes "FEN")) named, is_position value)

abbrev pub with_pair : List ℕ → List ℕ → List Pair → List Pair
with_pair name value ps = insert_pair (record { name = name; value = value }) ps

found_by : {is : Bool} {read : Result Parts FenFault} (name value : List ℕ) (ps : List Pair) {start : Parts}
    → bytes_eq name (codes "FEN") ≡ is → position_of value ≡ read
    → has_pair ps name ≡ false → told_by is read ≡ Ok (Some start) → start_of (with_pair name value ps) ≡ start
found_by name value ps named reads none told = grind (arith, pick, value_of-put, bytes_eq-true, bytes_eq-refl)

pub start_found : (name value : List ℕ) (ps : List Pair) (start : Parts)
    → has_pair ps name ≡ false → fen_position name value ≡ Ok (Some start) → start_of (with_pair name value ps) ≡ start
start_found name value ps start none told = found_by name value ps refl refl none told

kept_by : {is : Bool} (read : Result Parts FenFault) (name value : List ℕ) (ps : List Pair)
    → bytes_eq name (codes "FEN") ≡ is → told_by is read ≡ Ok None → start_of (with_pair name value ps) ≡ start_of ps
kept_by read name value ps named told = grind (arith, value_of-insert)

-- another pair decides nothing of it
pub start_kept : (name value : List ℕ) (ps : List Pair) → fen_position name value ≡ Ok None
    → start_of (with_pair name value ps) ≡ start_of ps
start_kept name value ps told = kept_by _ name value ps refl told

passes_by : (is : Bool) (read : Result Parts FenFault) {start : Option Parts}
    → told_by is read ≡ Ok start → (is && is_some (fen_fault_field read)) ≡ false
passes_by is read told = grind arith

-- a pair that is no FEN or a good one is not rejected for it
pub start_passes : (name value : List ℕ) {start : Option Parts} → fen_position name value ≡ Ok start
    → (bytes_eq name (codes "FEN") && is_some (fen_field value)) ≡ false
start_passes name value told = passes_by _ _ told

faults_by : (is : Bool) (read : Result Parts FenFault) {field : ℕ} → told_by is read ≡ Err field
    → ((is && is_some (fen_fault_field read)) ≡ true) × (unwrap_or (fen_fault_field read) 0 ≡ field)
faults_by is read told = search rules

told_is : (is : Bool) (read : Result Parts FenFault) {start : Option Parts} → told_by is read ≡ Ok start → is_some start ≡ is
told_is is read told = grind arith

-- a position comes of a FEN alone
pub start_told : (name value : List ℕ) {start : Option Parts} → fen_position name value ≡ Ok start → is_some start ≡ bytes_eq name (codes "FEN")
start_told name value told = told_is _ _ told

pub start_faults : (name value : List ℕ) (field : ℕ) → fen_position name value ≡ Err field
    → ((bytes_eq name (codes "FEN") && is_some (fen_field value)) ≡ true) × (unwrap_or (fen_field value) 0 ≡ field)
start_faults name value field told = faults_by _ _ told

-- so a pair that is no FEN or a good one
pub start_fine : (name value : List ℕ) → IsTrue (is_ok (fen_position name value))
    → (bytes_eq name (codes "FEN") && is_some (fen_field value)) ≡ false
start_fine name value fine = grind (arith, start_passes)
