use Rattle.chess_text.proofs.Words.{◌≡◌, ◌≤◌, true, Some, length, subst, sym, ◌∙◌, arith, Kind, King, Pawn, Piece, Move, Parts, at, own, candidates, disambiguation_pairs, has_rivals, kind_pairs, kind_text, unmarked, common_steps}
use Rattle.chess_text.proofs.forms.MoverOfMove.{may_have_rivals, mover, mover_stands}
use Rattle.chess_text.proofs.san.push_unmarked.Goals as goal

pub push_king_text-requires-clause-king : goal.push_king_text-requires-clause-king
push_king_text-requires-clause-king c = grind (arith, common_steps, own, mover)

pub push_pawn_text-requires-clause-pawn : goal.push_pawn_text-requires-clause-pawn
push_pawn_text-requires-clause-pawn c = grind (arith, common_steps, own, mover)

pub returns-in_default-clause-some : goal.returns-in_default-clause-some
returns-in_default-clause-some c = absurd (mover_stands c.args.position.now c.args.mv.now c.requires.legal (sym c.at.ensures ∙ c.in_default.is))

-- one pair for each candidate
candidates_are : (p : Parts) (m : Move) (x : Piece) → at p.board m.from ≡ Some x → has_rivals x.kind ≡ true
    → disambiguation_pairs p m ≡ length (candidates p x.kind m.to)
candidates_are p m x e rivals = cc

pub push_disambiguated_text-requires : goal.push_disambiguated_text-requires
push_disambiguated_text-requires c =
    record {
      empty = c.requires.empty;
      legal = c.requires.legal;
      own = mover c.args.position.now c.args.mv.now c.in-Some.piece c.requires.legal (sym c.at.ensures ∙ c.in-Some.is);
      may_have_rivals = may_have_rivals _ c.in_default-kind.not-King c.in_default-kind.not-Pawn;
      found = λ is.
          subst (λ n. n ≤ c.args.probes.now)
          (candidates_are c.args.position.now c.args.mv.now c.in-Some.piece (sym c.at.ensures ∙ c.in-Some.is)
          (may_have_rivals _ c.in_default-kind.not-King c.in_default-kind.not-Pawn))
          (c.requires.found is);
      room = c.requires.room;
    }

-- what is written and tried for a piece of that kind
unmarked_is : (p : Parts) (m : Move) (x : Piece) (k : Kind) → at p.board m.from ≡ Some x → x.kind ≡ k → unmarked p m ≡ kind_text k p m
unmarked_is p m x k e is = cc

pairs_are : (p : Parts) (m : Move) (x : Piece) (k : Kind) → at p.board m.from ≡ Some x
    → x.kind ≡ k → disambiguation_pairs p m ≡ kind_pairs k p m
pairs_are p m x k e is = cc

pub returns-in-King-clause-text : goal.returns-in-King-clause-text
returns-in-King-clause-text c = grind (arith, common_steps, unmarked_is)

pub returns-in-King-clause-pairs : goal.returns-in-King-clause-pairs
returns-in-King-clause-pairs c =
    omega (arith, pairs_are c.args.position.now c.args.mv.now c.in-Some.piece King (sym c.at.ensures ∙ c.in-Some.is) c.in-King.is)

pub returns-in-Pawn-clause-text : goal.returns-in-Pawn-clause-text
returns-in-Pawn-clause-text c = grind (arith, common_steps, unmarked_is)

pub returns-in-Pawn-clause-pairs : goal.returns-in-Pawn-clause-pairs
returns-in-Pawn-clause-pairs c =
    omega (arith, pairs_are c.args.position.now c.args.mv.now c.in-Some.piece Pawn (sym c.at.ensures ∙ c.in-Some.is) c.in-Pawn.is)
