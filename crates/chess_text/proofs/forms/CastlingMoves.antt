-- Which steps and legal moves are castling.
use Rattle.chess_rules.proofs.moves.PlainStepAttacks.{none_when_not}
use Rattle.chess_text.proofs.Words.{◌≡◌, ℕ, ◌<◌, ◌≤◌, Bool, true, false, not, ◌&&◌, ◌||◌, refl, sym, ◌∙◌, arith, nat_lt, Option, None, Some, is_none, is_some, option_map, if◌then◌else◌, abs_diff, and_parts, and_from, or_cases, ltb-true, Colour, King, Pawn, Piece, Move, Parts, Square, is_adjacent, Board, at, has_colour, has_piece, attacks, cell_attacks, own, Kind, home, Wing, short_wing, long_wing, is_pawn_way, is_en_passant, captured_pawn, other, castles, on_board, step, is_legal, if_safe, is_castling, nat_tests, [], subst, Ok, Err, cons_option, legal, Castle, Played, NoMove, describes, with_next_position, played, castling_move, agreeing, only, move_of_form, false_from_ne_true, rules, common_steps, after, board_after, carried, castled, en_passant_board, is_on_board, is_pawn_step, is_piece_step, promotion_fits, stand_ready, same_tests, some_of}

-- what each way of a step says
pub data StepWay (p : Parts) (m : Move) : Type 0 where
  piece_goes : has_colour p.side (at p.board m.from) ≡ true → not (own p Pawn m.from) ≡ true
      → is_none m.promotion ≡ true → attacks p.board m.from m.to ≡ true → StepWay p m
  pawn_goes : own p Pawn m.from ≡ true → is_pawn_way p m ≡ true → StepWay p m
  pawn_passes : own p Pawn m.from ≡ true → is_en_passant p m ≡ true → StepWay p m
  king_castles : is_castling p m ≡ true → StepWay p m

pub record Stepped (p : Parts) (m : Move) : Type 0 where
  pub from_on : on_board m.from ≡ true
  pub to_on : on_board m.to ≡ true
  pub way : StepWay p m

-- six tests that hold together
six_hold : (a b c d e f : Bool) → (((a && b) && (c && d)) && (e && f)) ≡ true
    → (a ≡ true) × (b ≡ true) × (c ≡ true) × (d ≡ true) × (e ≡ true) × (f ≡ true)
six_hold a b c d e f h = grind arith

four_hold : (a b c d e : Bool) → (((a && b) && c) && (d && e)) ≡ true → (a ≡ true) × (b ≡ true) × (c ≡ true) × (d ≡ true)
four_hold a b c d e h = grind arith

pub passing_parts : (p : Parts) (m : Move) → is_en_passant p m ≡ true → (own p Pawn m.from ≡ true)
    × (attacks p.board m.from m.to ≡ true) × (has_piece (other p.side) Pawn (at p.board (captured_pawn m)) ≡ true)
passing_parts p m h = grind (arith, common_steps, six_hold)

pub way_of_step : (p : Parts) (m : Move) → is_some (step p m) ≡ true → Stepped p m
way_of_step p m h = by_on _ refl h
  where
    by_piece : is_piece_step p m ≡ true → StepWay p m
    by_piece g =
        let (stands, no_pawn, plain, goes) =
        four_hold (has_colour p.side (at p.board m.from)) (not (own p Pawn m.from)) (is_none m.promotion) (attacks p.board m.from m.to) _ g in
        piece_goes stands no_pawn plain goes

    by_pawn : is_pawn_step p m ≡ true → StepWay p m
    by_pawn g = let both = and_parts _ (is_pawn_way p m && promotion_fits p m) g in pawn_goes both.0 (and_parts _ _ both.1).0

    ways : ((is_piece_step p m || is_pawn_step p m) || (is_en_passant p m || is_castling p m)) ≡ true → StepWay p m
    ways g = search (rules, or_cases, by_piece, by_pawn, pawn_passes, passing_parts, king_castles)

    by_way : (plain passes short long : Bool)
        → is_some (option_map (after p m) (if plain then Some (carried p m) else if passes then Some (en_passant_board p m) else if short then Some
        (castled p m short_wing.rook short_wing.crossing) else if long then Some (castled p m long_wing.rook long_wing.crossing) else None)) ≡ true
        → (plain || (passes || (short || long))) ≡ true
    by_way false false false false g = g
    by_way plain passes short long g = refl

    by_on : (x : Bool) → is_on_board m ≡ x → is_some (if x then option_map (after p m) (board_after p m) else None) ≡ true → Stepped p m
    by_on true e g = let both = and_parts (on_board m.from) _ e in record { from_on = both.0; to_on = both.1; way = ways (by_way _ _ _ _ g) }
    by_on false e g = cc

pub legal_is_step : (p : Parts) (m : Move) → is_legal p m ≡ true → is_some (step p m) ≡ true
legal_is_step p m h = by_step _ h
  where
    by_step : (o : Option Parts) → is_some (if_safe o) ≡ true → is_some o ≡ true
    by_step o g = grind arith

pub stepped : (p : Parts) (m : Move) → is_legal p m ≡ true → Stepped p m
stepped p m h = way_of_step p m (legal_is_step p m h)

-- a king is no pawn
module _ (c : Colour) (cell : Option Piece) where
  pub no_pawn : has_piece c King cell ≡ true → has_piece c Pawn cell ≡ true → ⊥
  no_pawn h g = grind (arith, nat_tests)

  -- a king attacks the squares beside it
  king_attacks : (b : Board) (s t : Square) → has_piece c King cell ≡ true → cell_attacks cell b s t ≡ true → is_adjacent s t ≡ true
  king_attacks b s t h g = grind (arith, nat_tests)

-- as the code asks
abbrev pub goes_far : Parts → Move → Bool
goes_far p m = own p King m.from && nat_lt 1 (abs_diff m.from.file m.to.file)

near_file : (s t : Square) → is_adjacent s t ≡ true → abs_diff s.file t.file ≤ 1
near_file s t h = grind (arith, nat_tests)

module _ (p : Parts) (m : Move) where
  far_is_castling : Stepped p m → own p King m.from ≡ true → 1 < abs_diff m.from.file m.to.file → is_castling p m ≡ true
  far_is_castling st king far =
      elim st.way [
        | piece_goes a b c hits ↦
            absurd (omega (arith, near_file m.from m.to (king_attacks p.side (at p.board m.from) p.board m.from m.to king hits)))
        | pawn_goes stands g ↦ absurd (no_pawn p.side (at p.board m.from) king stands)
        | pawn_passes stands g ↦ absurd (no_pawn p.side (at p.board m.from) king stands)
        | king_castles g ↦ g
      ]

  -- where castling leads, and that king and rook are ready
  pub castles_ends : (right : Bool) (wing : Wing) → castles p m right wing ≡ true
      → (m.from ≡ home p 4) × (m.to ≡ home p wing.end) × (is_none m.promotion ≡ true) × (stand_ready p wing.rook ≡ true)
  castles_ends right wing h = grind (arith, common_steps, six_hold)

  castles_far : (right : Bool) (wing : Wing) → 1 < abs_diff 4 wing.end → castles p m right wing ≡ true → goes_far p m ≡ true
  castles_far right wing far h = grind (arith, common_steps, castles_ends, and_from)

  pub castling_goes_far : is_castling p m ≡ true → goes_far p m ≡ true
  castling_goes_far h = search (rules, or_cases, castles_far)

pub castling_is_far : (p : Parts) (m : Move) → is_some (step p m) ≡ true → is_castling p m ≡ goes_far p m
castling_is_far p m h =
    same_tests _ _ (castling_goes_far p m)
    (λ far.
    let both = and_parts (own p King _) (nat_lt 1 _) far in
    far_is_castling p m (way_of_step p m h) both.0 (ltb-true 1 _ both.1))

-- the second of two tests, where the first holds
and_second : (x y : Bool) → x ≡ true → (x && y) ≡ y
and_second x y h = rw h refl

-- where the code has seen the king
pub castling_by_files : (p : Parts) (m : Move) (king : Bool) (files : ℕ) → is_some (step p m) ≡ true
    → king ≡ own p King m.from → king ≡ true → files ≡ abs_diff m.from.file m.to.file → nat_lt 1 files ≡ is_castling p m
castling_by_files p m king files steps seen stands count =
    cc (and_second (own p King _) (nat_lt 1 _) (sym seen ∙ stands), castling_is_far p m steps)

-- only a king castles
pub castles_by_king : (p : Parts) (m : Move) (k : Kind) → own p k m.from ≡ true → (k ≡ King → ⊥) → is_castling p m ≡ false
castles_by_king p m k stands other = search (rules, false_from_ne_true, and_parts)

-- what the code asks, which looks for castling only where the piece is a king
pub fits_by_kind : (legal fit asked castles : Bool) → legal ≡ true → fit ≡ true → asked ≡ castles → not asked ≡ (legal && (fit && not castles))
fits_by_kind legal fit asked castles h g same = grind arith

-- What a form of castling names: the one move that is tried, or none.

first_alone : (x y : Bool) → (y ≡ true → ⊥) → x ≡ (x || y)
first_alone x y h = grind arith

second_alone : (x y : Bool) → (x ≡ true → ⊥) → y ≡ (x || y)
second_alone x y h = grind arith

-- the castling that the form names is the only one to its target
pub described : (p : Parts) (long : Bool) (m : Move) → m.to ≡ (castling_move p.side long).to → describes p (Castle long) m ≡ is_castling p m
described p false m to = search (rules, first_alone)
described p true m to = grind (arith, common_steps, second_alone)

reads_one : (p : Parts) (long : Bool) → move_of_form p (Castle long)
    ≡ only (cons_option (played (describes p (Castle long) (castling_move p.side long)) p (castling_move p.side long)) [])
unfolding agreeing
reads_one p long = refl

pub played_none : (b : Bool) (p : Parts) (m : Move) → legal p m ≡ None → played b p m ≡ None
played_none false p m h = refl
played_none true p m h = cc

pub played_some : (b : Bool) (p q : Parts) (m : Move) → b ≡ true → legal p m ≡ Some q → played b p m ≡ Some (record { mv = m; next = q })
played_some true p q m e h = cc
played_some false p q m e h = cc

pub played_not : (b : Bool) (p : Parts) (m : Move) → b ≡ false → played b p m ≡ None
played_not b p m e = cc

pub played_unless : (b : Bool) (p : Parts) (m : Move) → (b ≡ true → is_legal p m ≡ true → ⊥) → played b p m ≡ None
played_unless false p m h = refl
played_unless true p m h = played_none true p m (none_when_not (legal p m) (false_from_ne_true _ (h refl)))

module _ (p : Parts) (long : Bool) (m : Move) (is : m ≡ castling_move p.side long) where
  answer_of : (o : Option Played) → played (describes p (Castle long) (castling_move p.side long)) p (castling_move p.side long) ≡ o
      → only (cons_option o []) ≡ move_of_form p (Castle long)
  answer_of o h = cc (reads_one p long)

  pub castling_illegal : is_legal p m ≡ false → Err NoMove ≡ move_of_form p (Castle long)
  castling_illegal h = answer_of None (played_none _ p (castling_move p.side long) (rw is at (none_when_not _ h)))

  pub castling_found : is_legal p m ≡ true → is_castling p m ≡ true → with_next_position p (Ok m) ≡ move_of_form p (Castle long)
  castling_found h named =
      let (q, leads) = some_of (legal p m) h in
      cc (answer_of (Some (record { mv = castling_move p.side long; next = q })) (played_some _ p q (castling_move p.side long)
      (described p long (castling_move _ long) refl ∙ rw is at named) (subst (λ n. legal p n ≡ Some q) is leads)))

  pub castling_other : is_castling p m ≡ false → Err NoMove ≡ move_of_form p (Castle long)
  castling_other named = answer_of None (played_not _ p (castling_move p.side long) (described p long (castling_move _ long) refl ∙ rw is at named))
