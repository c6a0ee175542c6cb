use Rattle.chess_text.proofs.Words.{◌≤◌, IfOk, subst, sym, Castle, Form, Man, disambiguation_pairs, form_pairs}
use Rattle.chess_text.proofs.forms.PairsToFind.{found_candidates}
use Rattle.chess_text.proofs.resolution.resolve_move.Goals as goal

pub returns-in-Castle-clause-candidates : goal.returns-in-Castle-clause-candidates
returns-in-Castle-clause-candidates c =
    let p = c.args.position.now in
    subst (λ (f : Form). IfOk c.resolve_castling.result (λ mv. disambiguation_pairs p mv ≤ form_pairs p f)) (sym c.in-Castle.is)
    (found_candidates p (Castle c.in-Castle.long) c.resolve_castling.result c.resolve_castling.ensures.legal c.resolve_castling.ensures.answer)

pub returns-in-Man-clause-candidates : goal.returns-in-Man-clause-candidates
returns-in-Man-clause-candidates c =
    let p = c.args.position.now in
    subst (λ (f : Form). IfOk c.resolve_by_kind.result (λ mv. disambiguation_pairs p mv ≤ form_pairs p f)) (sym c.in-Man.is)
    (found_candidates p (Man c.in-Man.kind c.in-Man.file c.in-Man.rank c.in-Man.to c.in-Man.promotion) c.resolve_by_kind.result c.resolve_by_kind.ensures.legal c.resolve_by_kind.ensures.answer)
