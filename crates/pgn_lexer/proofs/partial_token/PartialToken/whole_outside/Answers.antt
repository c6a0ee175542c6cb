use Rattle.pgn_lexer.proofs.Words.{◌+◌, subst, sym, ap, ReadsBehind, standing_at, take_rest, kind_of}
use Rattle.pgn_lexer.proofs.stepping.WholeRuns.{into_mode, reads_whole, sound_outside}
use Rattle.pgn_lexer.proofs.partial_token.PartialToken.whole_outside.Goals as goal

pub returns-in_default-clause-sound : goal.returns-in_default-clause-sound
returns-in_default-clause-sound c = sound_outside _ _ c.pass-passed.ensures.outside c.pass-passed.ensures.room

pub returns-clause-reads : goal.returns-clause-reads
returns-clause-reads c =
    let passed = c.pass-passed.ensures in
    subst (λ h. ReadsBehind c.args.skips_numbers (standing_at c.args.place c.args.self.now) c.args.piece.now
    (standing_at (c.args.place + (c.pass-passed.result + c.in-Some.length)) h) (c.pass-passed.result + c.in-Some.length)
    (record { at = c.args.place + c.pass-passed.result; kind = kind_of c.in-Some.kind }))
    (sym (ap (λ h. into_mode h c.in-Some.mode) c.self.view_is))
    (reads_whole _ _ _ _ _ _ passed.passes passed.outside passed.room _ _ _ (rw take_rest at c.in-Some.ensures.whole) (λ skipped. rw take_rest at c.in-Some.ensures.not_passed (passed.stops skipped)))
