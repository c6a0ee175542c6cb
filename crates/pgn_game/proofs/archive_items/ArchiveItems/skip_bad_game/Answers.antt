use Rattle.pgn_game.proofs.Words.{◌≡◌, ◌∙◌, sym, ap, rules, List, ℕ, Option, None, Some, Ok, IfSome, IfSome_then}
use Rattle.pgn_game.proofs.giving.CurrentFitsInMemory.{archive_fits_items}
use Rattle.pgn_sections.specs.Lines.{next_place}
use Rattle.pgn_game.proofs.archive_items.ArchiveItems.skip_bad_game.Goals as goal

pub fault-requires : goal.fault-requires
fault-requires g c = search archive_fits_items

pub end-requires : goal.end-requires
end-requires g c = search archive_fits_items

some_same : {A : Type 0} {x y : A} → Some x ≡ Some y → x ≡ y
some_same e = cc

both_of : (text : Option (List ℕ)) (P Q : List ℕ → Type 0) → IfSome text P → IfSome text Q → IfSome text (λ s. P s × Q s)
both_of None P Q p q = tt
both_of (Some s) P Q p q = (p, q)

pub returns-in-Ok-None-clause-skips : goal.returns-in-Ok-None-clause-skips
returns-in-Ok-None-clause-skips g c f is game =
    let finds = rw (c.in-Ok-None.is ∙ ap Ok c.in-Ok-None.field-0-is) at c.section_behind.ensures.finds in
    let begin = ap (λ a. a.begin) c.self.view_is in
    rw (some_same (sym is ∙ ap (λ a. a.items.fault) (sym c.self.view_is) ∙ sym c.fault.ensures ∙ c.in-Some.is)) (
      record {
        no_fault = c.end.ensures.no_fault;
        finished = c.end.ensures.finished;
        none_next = c.end.ensures.none_next;
        games = search rules;
      },
      finds.1,
      IfSome_then (g.R.Source.text c.args.source.now) finds.2 (λ s shows. ap (λ n. next_place s n c.in-Some.fault.at) (sym begin) ∙ sym shows),
    )

pub returns-in-Ok-clause-skips : goal.returns-in-Ok-clause-skips
returns-in-Ok-clause-skips g c f is game =
    let finds = rw (c.in-Ok-Some.is ∙ ap Ok c.in-Ok-Some.field-0-is) at c.section_behind.ensures.finds in
    let sets = rw (c.in-Ok.is, c.section_behind.ensures.text) at c.set_to.ensures.sets in
    let begin = ap (λ a. a.begin) c.self.view_is in
    rw (some_same (sym is ∙ ap (λ a. a.items.fault) (sym c.self.view_is) ∙ sym c.fault.ensures ∙ c.in-Some.is)) (
      c.in-Ok-Some.place,
      c.in-Ok.in_first_column,
      c.go_on_at.ensures,
      sets.0,
      sets.1 ∙ finds.1,
      both_of (g.R.Source.text c.args.source.now) _ _
          (IfSome_then (g.R.Source.text c.args.source.now) finds.2 (λ s shows. ap (λ n. next_place s n c.in-Some.fault.at) (sym begin) ∙ sym shows)) sets.2,
    )
