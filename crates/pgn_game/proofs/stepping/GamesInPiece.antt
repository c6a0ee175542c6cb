-- Games in turn in a piece.
use Rattle.std.proofs.Common.{take_all}
use Rattle.pgn_game.proofs.Words.{Token, Fault, Profile, take-append-drop, drop-drop, decided, first, still, Converter, Stands, FedAll, FedGame, FedToFault, FedFault, FedWhole, ReadsUpTo, StopsIn, within_limit, at_token, too_long, AllSoFar, ◌≡◌, ℕ, ◌+◌, ◌^◌, List, [], ◌∷◌, ◌++◌, length, take, drop, Option, None, refl, sym, ap, ◌∙◌, append-nil, append_assoc, length-drop, arith, common_steps, rules}
use Rattle.pgn_game.proofs.stepping.OneMoreToken.{gains_none, gains_more, stops_more}
use Rattle.pgn_game.proofs.stepping.StepsInPiece.{further, whole_piece, decided_at_end, stands_before_any}

pub all_none : (p : Profile) (old : Converter) (u : List ℕ) (given : List Token) (piece : List ℕ) (o : Option (List ℕ))
    → Stands p old u None given → given ≡ decided u → AllSoFar p u given piece 0 old o o
all_none p old u given piece o stands is_decided = grind (arith, common_steps, append-nil, stands_before_any, gains_none)

pub behind_first : (xs : List ℕ) → still (first xs) xs ≡ None
behind_first xs = search rules

module _ (p : Profile) (u : List ℕ) (given : List Token) (piece : List ℕ) (at : ℕ)
    (now : Converter) (a c d : Option (List ℕ)) (so : AllSoFar p u given piece at now a c) where
  pub all_more : (new : Converter) (used : ℕ) → FedGame p (u ++ take at piece) so.tokens (drop at piece) used new c d
      → AllSoFar p u given piece (at + used) new a d
  all_more new used fed =
      let ts = fed.tokens ++ fed.marker ∷ [] in
      record {
        tokens = ts;
        stands = rw (drop-drop used at piece) at (rw (further u piece at used) at fed.stands);
        at_limit = λ h. fed.at_limit (ap (length {A = ℕ}) (further u piece at used) ∙ h) ∙ ap decided (further u piece at used);
        decided = rw (drop-drop used at piece) at (rw (further u piece at used) at fed.decided);
        gains = gains_more so.gains fed.gains;
      }

  pub all_fed : (new : Converter) → FedAll p (u ++ take at piece) (first (drop at piece)) so.tokens (drop at piece) new c d
      → FedWhole p u given piece new a d
  all_fed new fed =
      record {
        tokens = fed.tokens;
        stands = rw (behind_first (drop at piece)) at (rw (whole_piece u piece at) at fed.stands);
        decided = which (drop at piece) refl;
        gains = gains_more so.gains fed.gains;
      }
    where
      which : (xs : List ℕ) → drop at piece ≡ xs → fed.tokens ≡ decided (u ++ piece)
      which xs e = search (rules, length-drop, take_all, decided_at_end, whole_piece)

  all_fault : {f : Fault} → FedFault p (within_limit ((u ++ take at piece) ++ drop at piece)) so.tokens f c d
      → FedFault p (within_limit (u ++ piece)) given f a d
  all_fault fed =
      record {
        tokens = fed.tokens;
        next = rw (whole_piece u piece at) at fed.next;
        stops = stops_more so.gains fed.stops;
      }

  all_before : {front : List ℕ} {n : Converter} → length ((u ++ take at piece) ++ front) ≡ 2 ^ 62
      → FedAll p (u ++ take at piece) (first (drop at piece)) so.tokens front n c d → ReadsUpTo p given (u ++ (take at piece ++ front)) a d
  all_before {front} end fed =
      record {
        tokens = fed.tokens;
        decided = which front refl;
        passes = fed.stands.has_read.passes;
        gains = gains_more so.gains fed.gains;
      }
    where
      text : (u ++ take at piece) ++ front ≡ u ++ (take at piece ++ front)
      text = append_assoc u (take at piece) front

      which : (xs : List ℕ) → front ≡ xs → fed.tokens ≡ decided (u ++ (take at piece ++ front))
      which xs e = search (rules, append-nil, text)

  pub all_stops : (new : Converter) (f : Fault) → StopsIn (u ++ take at piece) (drop at piece)
      (λ bytes fault. FedToFault p bytes so.tokens fault new.reading c d)
      (λ front. (n : Converter) × FedAll p (u ++ take at piece) (first (drop at piece)) so.tokens front n c d × (new.reading ≡ n.reading)) f
      → StopsIn u piece (λ bytes fault. FedFault p bytes given fault a d) (λ front. ReadsUpTo p given (u ++ front) a d) f
  all_stops new f (at_token h to) = at_token h (all_fault to.fed)
  all_stops new f (too_long front rest cut end some (n, fed, same)) =
      too_long (take at piece ++ front) rest
      (sym (take-append-drop at piece) ∙ ap (λ xs. take at piece ++ xs) cut ∙ sym (append_assoc (take at piece) front rest))
      (sym (ap (length {A = ℕ}) (append_assoc u (take at piece) front)) ∙ end) some (all_before end fed)
