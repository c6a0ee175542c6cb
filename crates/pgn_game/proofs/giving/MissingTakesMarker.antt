-- What was read and given where a missing Result counts as a text: it is the same where a missing
-- Result takes the marker.
use Rattle.pgn_game.proofs.Words.{◌≡◌, ℕ, Bool, true, false, List, [], ◌∷◌, ◌++◌, Option, None, IsSomeAnd, refl, sym, ap, subst, ◌∙◌, append-nil, false≢true, none-some, Kind, Token, Fault, Part, Profile, Missing, counts_as, takes_the_marker, counting, with_missing, Progress, no_progress, Read, progress_after, read, read_from, refusal, next, Standing, Converter, HasRead, IsSound, rules}
use Rattle.pgn_game.specs.declared.item.Item.{Item as CodeItem}
use Rattle.pgn_game.specs.export.Text.{text_of}
use Rattle.pgn_game.specs.public.Given.{Given, Shown, given_of, shown}
use Rattle.pgn_game.specs.public.ItemsCalls.{Current, GiveByMarker, IsHeld, IsShown, Items, ItemsRead, at_end, behind, converter_of, current_by_marker, depth_behind, given_if, given_next, items_by_marker, position_without, within}
use Rattle.pgn_game.specs.public.MostTried.{CostsUnlessRefused, MostFrom, Tries, added}
use Rattle.pgn_game.specs.public.MostTried as tried
use Rattle.pgn_game.specs.steps.GameState.{GameState}
use Rattle.pgn_game.proofs.stepping.OneMoreToken.{first_passes, goes_on}
use Rattle.pgn_game.proofs.twice.CountingToTaking.{by_result, refusal_taking}
use Rattle.pgn_game.proofs.twice.MarkerCounts.{agrees_under}

abbrev taking : Profile → Profile
taking p = with_missing p takes_the_marker

-- ---- what is read

module _ (p : Profile) where
  free_by : (missing : Missing) → p.missing_result ≡ missing → (part : Part) (k : Kind) → refusal p part k ≡ None → refusal (taking p) part k ≡ None
  free_by takes_the_marker is part k free = subst (λ (m : Missing). refusal (with_missing p m) part k ≡ None) is free
  free_by (counts_as text) is part k free =
      let same : refusal (counting p text) part k ≡ refusal p part k = ap (λ (m : Missing). refusal (with_missing p m) part k) (sym is) in
      refusal_taking (taking p) text part k refl (ap by_result (same ∙ free)) ∙ same ∙ free

  -- a token that is not rejected is not rejected then either
  still_free : (part : Part) (k : Kind) → refusal p part k ≡ None → refusal (taking p) part k ≡ None
  still_free = free_by p.missing_result refl

  reads_alike : (b : Progress) (ts : List Token) → (read_from p b ts).fault ≡ None → read_from (taking p) b ts ≡ read_from p b ts
  reads_alike b [] passes = refl
  reads_alike b (t ∷ ts) passes =
      let free = first_passes p b t ts passes in
      let here = goes_on p b t ts free in
      goes_on (taking p) b t ts (still_free b.part t.kind free)
      ∙ reads_alike (progress_after b t) ts (ap (λ (r : Read). r.fault) (sym here) ∙ passes) ∙ sym here

  tries_alike : (silent : Bool) (part : Part) (k : Kind) (n : ℕ) → refusal p part k ≡ None → Tries silent p part k n → Tries silent (taking p) part k n
  tries_alike silent part k n free tries = search (rules, still_free)

  most_alike : (silent : Bool) (b : Progress) (ts : List Token) (n : ℕ) → (read_from p b ts).fault ≡ None → MostFrom silent p b ts n
      → MostFrom silent (taking p) b ts n
  most_alike silent _ _ _ passes (tried.none b) = tried.none b
  most_alike silent _ _ _ passes (tried.refused b t ts n reason is tries) = absurd (none-some reason (sym (first_passes p b t ts passes) ∙ is))
  most_alike silent _ _ _ passes (tried.passes b t ts n most free tries rest) =
      tried.passes b t ts n most (still_free b.part t.kind free) (tries_alike silent b.part t.kind n free tries)
      (most_alike silent (progress_after b t) ts most (ap (λ (r : Read). r.fault) (sym (goes_on p b t ts free)) ∙ passes) rest)

  abbrev by_marker : Converter → Converter
  by_marker c = record c { reading = record c.reading { profile = taking c.reading.profile } }

  reads_by_marker : (c : Converter) (ts : List Token) → HasRead p c ts → HasRead (taking p) (by_marker c) ts
  reads_by_marker c ts h = search (rules, reads_alike, agrees_under, most_alike)

  items_read : (left : Option (List ℕ)) (u : List ℕ) (i : Items) (ts : List Token) → i.current.reading.writing.is_silent ≡ true
      → ItemsRead p left u i ts → ItemsRead (taking p) left u (items_by_marker i) ts
  items_read left u i ts silent (within more on) = within more (record {
    used = on.used;
    bytes = on.bytes;
    stands = record {
      known = λ writes. absurd (false≢true (sym writes ∙ silent));
      lexer = on.stands.lexer;
      has_read = reads_by_marker (converter_of i) ts on.stands.has_read;
    };
    decided = on.decided;
    not_finished = on.not_finished;
  })
  items_read left u i ts silent (behind all rest) = behind all (record {
    at_end = rest.at_end;
    short = rest.short;
    place = rest.place;
    rest = rest.rest;
    markers = rest.markers;
    has_read = reads_by_marker (converter_of i) ts rest.has_read;
    not_finished = rest.not_finished;
  })
  items_read left u i ts silent (at_end is place all) = at_end is place (record {
    at_end = all.at_end;
    short = all.short;
    whole = all.whole;
    none_begun = append-nil (text_of (taking p) (read (taking p) ts).progress.games);
    has_read = reads_by_marker (converter_of i) ts all.has_read;
    finished = all.finished;
  })

-- ---- what is given

module _ (c : Current) where
  abbrev then : Current
  then = current_by_marker c

  same_if : (o : Option CodeItem) → given_if c o ≡ given_if then o
  same_if o = search rules

  same_position : (o : Option CodeItem) → position_without o then.reading ≡ position_without o c.reading
  same_position o = search rules

  same_depth : (last next : Option CodeItem) → depth_behind last next then.reading ≡ depth_behind last next c.reading
  same_depth last next = search rules

  shows_alike : (o : Option Shown) → IsSomeAnd o (IsShown c) → IsSomeAnd o (IsShown then)
  shows_alike o h = search (rules, same_position, same_depth)

  holds_alike : (o : Option Shown) → IsSomeAnd o (IsHeld c) → IsSomeAnd o (IsHeld then)
  holds_alike o h = search rules

pub gives_by_marker : (i : Items) → i.current.reading.writing.is_silent ≡ true → GiveByMarker i (items_by_marker i)
gives_by_marker i silent p left u given have =
    let next : given_next i.current ≡ given_next (current_by_marker i.current) = same_if i.current i.current.pending in
    record {
      tokens = have.tokens;
      reads = items_read p left u i have.tokens silent have.reads;
      whole = ap (λ (r : Read). given_of r.progress) (reads_alike p no_progress have.tokens (passes have.reads)) ∙ have.whole
          ∙ ap (λ (gs : List Given). given ++ gs) next;
      behind = have.behind;
      shows = λ some. shows_alike i.current (shown given) (have.shows some);
      holds = search (rules, holds_alike);
      marker_ends = have.marker_ends;
    }
  where
    passes : ItemsRead p left u i have.tokens → (read p have.tokens).fault ≡ None
    passes h1 = search rules

pub sound_by_marker : (lexer : Standing) (r : GameState) (games : ℕ) (is_finished : Bool) (fault : Option Fault)
    → IsSound lexer r games false is_finished fault → IsSound lexer (record r { profile = taking r.profile }) games false is_finished fault
sound_by_marker lexer r games is_finished fault sound = search rules
