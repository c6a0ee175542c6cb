-- What is given of a source, call by call.
use Rattle.pgn_game.proofs.Words.{◌≡◌, ℕ, ◌^◌, ◌≤◌, ◌⊎◌, ◌||◌, length-map, Bool, true, false, IsTrue, is_some, List, [], ◌∷◌, ◌++◌, length, fold-append, Option, None, Some, IsSomeAnd, Result, Ok, Err, refl, sym, ap, subst, ◌∙◌, arith, inl, inr, append-nil, append_assoc, append_cancel_left, coming, EndsAt, Parts, SymbolsStandInText, false≢true, none-some, Consumes, Consumes-kept, Consumes-nil, Consumes-trans, one_more, IsAtEnd, Token, Fault, Profile, Pair, HasLeft, Stands, first, HasRead, HasReadAll, Standing, decided, read, here, levels_of, start_of, StoredLevels, tokens_of, rules}
use Rattle.std.specs.Io.KnownBytes.{Keeps}
use Rattle.pgn_game.specs.declared.item.Item.{Item as CodeItem}
use Rattle.pgn_game.specs.declared.reason.Reason.TheVariants.{ReadFault}
use Rattle.pgn_game.specs.games.Progress.{position_at_fault}
use Rattle.pgn_game.specs.public.ConverterCalls.{reported_position}
use Rattle.pgn_game.specs.public.GamesCalls.{HasReadWithin}
use Rattle.pgn_game.specs.public.Given.{Given, Shown, given_of, shown, shown_with}
use Rattle.pgn_game.specs.public.ItemsCalls.{AfterItem, Current, EndsWithMarker, GivesFault, GivesItem, GivesNoItem, HaveGiven, IsBehindTags, IsHeld, IsShown, Items, ItemsRead, ItemsStop, MarkersEndAt, ReadsNoSooner, at_end, at_token, behind, converter_of, games_of_items, given_as, given_if, given_next, depth_behind, has_read_marker, position_at_items_stop, position_without, refused_items_position, shown_depth, too_long, unread, within}
use Rattle.pgn_game.specs.steps.ItemsSteps as steps
use Rattle.pgn_game.specs.steps.ItemsSteps.{AfterLastToken, AreGoing, FillsItems, ItemsSoFar, ReadsLastToken, Rejects, RestSoFar, StopsInBuffer, TakesAtEnd, TakesBuffered, still_at, giving_next, reads_as}
use Rattle.pgn_game.proofs.stepping.AcceptedToConverter.{read_as}
use Rattle.pgn_game.proofs.giving.ItemsAhead.{lowers_end, lowers_on}
use Rattle.pgn_game.proofs.giving.TokenToItems.{no_marker}
use Rattle.pgn_game.proofs.stepping.MarkersAtEnd.{markers_end}
use Rattle.pgn_game.proofs.stepping.OneMoreToken.{stops_from}
use Rattle.pgn_game.proofs.stepping.ReadsInText.{decided_by_used, none_ahead}
use Rattle.pgn_game.proofs.stepping.StepsInPiece.{stands_before_any}

-- ---- what is shown

shown-snoc : (given : List Given) (g : Given) → shown (given ++ g ∷ []) ≡ shown_with (shown given) g
shown-snoc given g = fold-append shown_with None given (g ∷ [])

-- the position that is held after the items
held_here : (c : Current) (s : Shown) → IsHeld c s → c.reading.text.levels.current.position ≡ here (start_of s.pairs) (levels_of s.items)
held_here c s held = ap (λ (ls : StoredLevels). ls.current.position) held.text.levels

-- Behind the tags an item is given next: the game is still at its first position.
first_here : (c : Current) (i : CodeItem) (ps : List Pair) → IsSomeAnd (shown_with (Some (record { pairs = ps; items = []; marker = None })) (given_as c i)) (IsHeld c)
    → c.reading.tags.held ≡ ps → position_without (Some i) c.reading ≡ start_of ps
first_here c i ps held is = search (rules, held_here)

-- What is held with the item that is given next shows what was given.
module _ (c : Current) (i : CodeItem) (given : List Given) (last : c.last ≡ Some i) (held : IsSomeAnd (shown ((given ++ given_as c i ∷ []) ++ given_next c)) (IsHeld c)) where
  depth_is : (next : Option CodeItem) → c.pending ≡ next → shown_depth c ≡ depth_behind (Some i) next c.reading
  depth_is next is = search rules

  shows_by : (next : Option CodeItem) → c.pending ≡ next → IsBehindTags next c.last → IsSomeAnd (shown (given ++ given_as c i ∷ [])) (IsShown c)
  shows_by next is at = search (rules, append-nil, held_here, depth_is, length-map, shown-snoc, first_here)

  pub shows_given : IsBehindTags c.pending c.last → IsSomeAnd (shown (given ++ given_as c i ∷ [])) (IsShown c)
  shows_given at = shows_by c.pending refl at

-- an item that was read, and what is behind it
pub gives_one : (p : Profile) (u : List ℕ) (given : List Given) (left : Option (List ℕ)) (new : Items) (i : CodeItem) (tokens : List Token)
    → ItemsRead p left u new tokens → given_of (read p tokens).progress ≡ given ++ given_as new.current i ∷ given_next new.current
    → steps.HoldsShown (given_of (read p tokens).progress) new.current → new.current.last ≡ Some i → IsBehindTags new.current.pending new.current.last
    → (IsTrue (has_read_marker new.current) → EndsWithMarker tokens new.lexer.count)
    → HaveGiven p left u new (given ++ given_as new.current i ∷ [])
gives_one p u given left new i tokens reads all holds last at ends = search (rules, append_assoc, shows_given)

-- the position in which a move was rejected, by the fault that is kept
pub refused_if : (i : Items) (f : Fault) → i.fault ≡ Some f → refused_items_position i ≡ reported_position i.current.reading f.reason
refused_if i f is = ap (λ (o : Option Fault). elim o [ None ↦ None | Some g ↦ reported_position i.current.reading g.reason ]) is

-- ---- in the bytes that were read

pub nothing_next : (i : Items) (given : List Given) → AreGoing i → given ++ given_next i.current ≡ given
nothing_next i given going = ap (λ (o : Option CodeItem). given ++ given_if i.current o) going.pending ∙ append-nil given

none_shown : (i : Items) → AreGoing i → IsTrue (is_some i.current.last) → ⊥
none_shown i going some = false≢true (subst (λ (o : Option CodeItem). is_some o ≡ true) going.last some)

pub reads_within : (p : Profile) (left : Option (List ℕ)) (u : List ℕ) (i : Items) (tokens : List Token) → i.has_read_all ≡ false → i.is_finished ≡ false
    → ItemsRead p left u i tokens → HasReadWithin p u (games_of_items i) tokens
reads_within p left u i tokens more going h1 = search (rules, false≢true)

pub so_far_none : (old : Items) (left : Option (List ℕ)) → AreGoing old → old.has_read_all ≡ false → steps.HasReadSoFar old old left left
so_far_none old left going more p u given have = record {
  more = [];
  consumed = Consumes-nil left;
  tokens = have.tokens;
  reads = search (rules, append-nil, reads_within);
  whole = have.whole ∙ nothing_next old given going;
  no_sooner = inl refl;
}

module _ (p : Profile) (u : List ℕ) (given : List Given) (left_old left_now : Option (List ℕ)) (now : Items) (so : ItemsSoFar p u given left_old left_now now) where
  -- where no byte is left, the tokens are those that the bytes decide
  decided_now : now.unused ≡ [] → given_of (read p (decided (u ++ so.more))).progress ≡ given
  decided_now none = search (rules, append-nil, decided_by_used, none_ahead)

  passes_now : now.unused ≡ [] → (read p (decided (u ++ so.more))).fault ≡ None
  passes_now none = search (rules, append-nil, decided_by_used, none_ahead)

  module _ (left_new : Option (List ℕ)) (new : Items) where
    -- bytes came
    pub filled : FillsItems left_now left_new now new → ItemsSoFar p u given left_old left_new new
    filled fills = by fills.empty
      where
        by : (fills.more ≡ []) ⊎ (now.unused ≡ []) → ItemsSoFar p u given left_old left_new new
        by (inl none) = search (rules, append-nil, Consumes-trans)
        by (inr empty) =
            let same : new ≡ record now { unused = fills.more } = fills.new_is ∙ ap (λ (xs : List ℕ). record now { unused = xs ++ fills.more }) empty in
            let used : so.reads.used ≡ u ++ so.more = sym (append-nil so.reads.used) ∙ ap (λ (xs : List ℕ). so.reads.used ++ xs) (sym empty) ∙ sym so.reads.bytes in
            let all : so.tokens ≡ decided so.reads.used = search (rules, decided_by_used, none_ahead) in
            rw same (record {
              more = so.more ++ fills.more;
              consumed = Consumes-trans left_old left_now left_new so.more fills.more so.consumed fills.consumed;
              tokens = so.tokens;
              reads = search (rules, append_assoc, stands_before_any, none_ahead);
              whole = so.whole;
              no_sooner = inr (so.more, fills.more, refl, fills.few, decided_now empty);
            })

    -- a token of them gave nothing
    pub took_none : TakesBuffered now new (Ok None) → left_new ≡ left_now → ItemsSoFar p u given left_old left_new new
    took_none takes same =
        let after = takes.after p (u ++ so.more) so.tokens so.reads in search (rules, append-nil)

    -- it gave an item
    pub took_item : (i : CodeItem) → now.has_read_all ≡ false → TakesBuffered now new (Ok (Some i)) → GivesItem p u given left_old left_now new i
    took_item i more takes =
        let after = takes.after p (u ++ so.more) so.tokens so.reads in
        record {
          more = so.more;
          consumed = so.consumed;
          have_given = gives_one p (u ++ so.more) given left_now new i after.0 (within (takes.read_all ∙ more) after.1)
              (after.2.0.gives ∙ ap (λ (gs : List Given). gs ++ given_as new.current i ∷ given_next new.current) so.whole) after.2.1 takes.goes.2 takes.goes.3 after.3;
          last = takes.goes.2;
          no_sooner = so.no_sooner;
        }

    -- it was rejected
    pub took_fault : (f : Fault) (failures failures_after : ℕ) → TakesBuffered now new (Err f)
        → GivesFault p u given (record { before = left_old; after = left_now; failures = failures; failures_after = failures_after }) new f
    took_fault f failures failures_after takes = record {
      more = so.more;
      consumed = so.consumed;
      stops = (by f (takes.after p (u ++ so.more) so.tokens so.reads)).0;
      no_sooner = so.no_sooner;
      kept = takes.goes.0;
      position = refused_if new f takes.goes.0 ∙ (by f (takes.after p (u ++ so.more) so.tokens so.reads)).1;
      last = takes.goes.1;
      none_next = takes.goes.2;
    }
      where
        by : (g : Fault) → StopsInBuffer p (u ++ so.more) so.tokens new.current g
            → (stops : ItemsStop p (u ++ so.more) given (record { before = left_old; after = left_now; failures = failures; failures_after = failures_after }) g)
            × (reported_position new.current.reading g.reason ≡ position_at_items_stop stops)
        by _ (steps.at_token g tokens rejects next) =
            (at_token g tokens next rejects.fault (rejects.gives ∙ so.whole), rejects.position)
        by _ (steps.too_long front rest is full more all) = (
          too_long front rest is full more (subst (λ (ts : List Token). (read p ts).fault ≡ None) all so.reads.stands.has_read.passes)
              (ap (λ (ts : List Token). given_of (read p ts).progress) (sym all) ∙ so.whole),
          refl,
        )

    -- a read failed
    pub read_failed : now.unused ≡ [] → now.fault ≡ None → (f : Fault) → f ≡ record { at = now.lexer.count; reason = ReadFault } → new.fault ≡ Some f
        → Keeps left_now left_new → new.current ≡ now.current → AreGoing now → now.lexer.count ≤ 2 ^ 62 → (failures : ℕ)
        → GivesFault p u given (record { before = left_old; after = left_new; failures = failures; failures_after = one_more failures }) new f
    read_failed none going f is kept keeps same at short failures =
        let used : length so.reads.used ≡ length (u ++ so.more) = search (rules, append-nil) in
        let place : now.lexer.count ≡ length (u ++ so.more) = so.reads.stands.lexer.count ∙ used in
        record {
          more = so.more;
          consumed = Consumes-kept left_old left_now left_new so.more so.consumed keeps;
          stops = (stops_by f (is ∙ ap (λ (n : ℕ). record { at = n; reason = ReadFault }) place)).0;
          no_sooner = so.no_sooner;
          kept = kept;
          position = refused_if new f kept ∙ (stops_by f (is ∙ ap (λ (n : ℕ). record { at = n; reason = ReadFault }) place)).1;
          last = ap (λ (c : Current). c.last) same ∙ at.last;
          none_next = ap (λ (c : Current). c.pending) same ∙ at.pending;
        }
      where
        place_short : length (u ++ so.more) ≤ 2 ^ 62
        place_short = search (rules, append-nil)

        stops_by : (g : Fault) → g ≡ record { at = length (u ++ so.more); reason = ReadFault }
            → (stops : ItemsStop p (u ++ so.more) given (record { before = left_old; after = left_new; failures = failures; failures_after = one_more failures }) g)
            × (reported_position new.current.reading g.reason ≡ position_at_items_stop stops)
        stops_by g by_read =
            subst (λ (h : Fault). (stops : ItemsStop p (u ++ so.more) given (record { before = left_old; after = left_new; failures = failures; failures_after = one_more failures }) h)
            × (reported_position new.current.reading h.reason ≡ position_at_items_stop stops)) (sym by_read)
            (unread refl place_short (passes_now none) (decided_now none), refl)

    consumed_on : Consumes left_now left_new [] → (xs : List ℕ) → Consumes left_new left_new xs → Consumes left_old left_new (so.more ++ xs)
    consumed_on ended xs consumed = search (rules, Consumes-trans, append-nil)

    stops_on : {failures failures_after : ℕ} (f : Fault) (v : List ℕ) → ItemsStop p v given (still_at left_new failures failures_after) f
        → ItemsStop p v given (record { before = left_old; after = left_new; failures = failures; failures_after = failures_after }) f
    stops_on f v (at_token g tokens next fault all) = at_token g tokens next fault all
    stops_on f v (at_end g ended short fault all) = at_end g ended short fault all
    stops_on f v (unread failed short passes all) = unread failed short passes all
    stops_on f v (too_long front rest is full more passes all) = too_long front rest is full more passes all

    -- with the position in which a move was rejected
    stops_with : {failures failures_after : ℕ} (f : Fault) (v : List ℕ) (o : Option Parts) (stops : ItemsStop p v given (still_at left_new failures failures_after) f)
        → o ≡ position_at_items_stop stops → o ≡ position_at_items_stop (stops_on f v stops)
    unfolding stops_on
    stops_with f v o (at_token g tokens next fault all) is = is
    stops_with f v o (at_end g ended short fault all) is = is
    stops_with f v o (unread failed short passes all) is = is
    stops_with f v o (too_long front rest is_long full more passes all) is = is

    abbrev AtStop : ℕ → ℕ → Fault → List ℕ → Type 0
    AtStop failures failures_after f v =
        (stops : ItemsStop p v given (record { before = left_old; after = left_new; failures = failures; failures_after = failures_after }) f)
        × (refused_items_position new ≡ position_at_items_stop stops)

    stops_later : {failures failures_after : ℕ} (f : Fault) (more : List ℕ) (stops : ItemsStop p ((u ++ so.more) ++ more) given (still_at left_new failures failures_after) f)
        → refused_items_position new ≡ position_at_items_stop stops → AtStop failures failures_after f (u ++ (so.more ++ more))
    stops_later {failures} {failures_after} f more stops is =
        subst (AtStop failures failures_after f) (append_assoc u so.more more)
        (stops_on f ((u ++ so.more) ++ more) stops, stops_with f ((u ++ so.more) ++ more) (refused_items_position new) stops is)

    sooner : (xs : List ℕ) → ReadsNoSooner p (u ++ so.more) xs given → ReadsNoSooner p u (so.more ++ xs) given
    sooner xs (inl none) = subst (λ (ys : List ℕ). ReadsNoSooner p u (so.more ++ ys) given) (sym none) (subst (λ (ys : List ℕ). ReadsNoSooner p u ys given) (sym (append-nil so.more)) so.no_sooner)
    sooner xs (inr (front, back, is, few, all)) =
        inr (
          so.more ++ front,
          back,
          ap (λ (ys : List ℕ). so.more ++ ys) is ∙ sym (append_assoc so.more front back),
          few,
          subst (λ (v : List ℕ). given_of (read p (decided v)).progress ≡ given) (append_assoc u so.more front) all,
        )

    -- ---- the source has ended

    pub rest_begins : SymbolsStandInText → now.unused ≡ [] → AreGoing now → now.lexer.count ≤ 2 ^ 62 → new ≡ record now { has_read_all = true } → IsAtEnd left_new
        → HaveGiven p left_new (u ++ so.more) new given
    rest_begins stand none going short is ended =
        let used : so.reads.used ≡ u ++ so.more = sym (append-nil so.reads.used) ∙ ap (λ (xs : List ℕ). so.reads.used ++ xs) (sym none) ∙ sym so.reads.bytes in
        let stands = subst (λ (xs : List ℕ). Stands p (converter_of now) so.reads.used (first xs) so.tokens) (none_ahead so.reads.used now.unused none) so.reads.stands in
        let rest : HasLeft now.lexer so.reads.used so.tokens = ap tokens_of (sym (append-nil so.reads.used)) ∙ stands.lexer.tokens [] tt in
        rw is (record {
          tokens = so.tokens;
          reads = behind refl (record {
            at_end = ended;
            short = omega (arith, short, stands.lexer.count, ap (length {A = ℕ}) used);
            place = stands.lexer.count ∙ ap (length {A = ℕ}) used;
            rest = subst (λ (v : List ℕ). HasLeft now.lexer v so.tokens) used rest;
            markers = subst (λ (v : List ℕ). MarkersEndAt (length v) (coming now.lexer [])) used (markers_end stand now.lexer so.reads.used so.tokens stands.lexer);
            has_read = stands.has_read;
            not_finished = so.reads.not_finished;
          });
          whole = so.whole ∙ sym (nothing_next now given going);
          behind = subst (λ (o : Option CodeItem). IsBehindTags o now.current.last) (sym going.pending) tt;
          shows = λ some. absurd (none_shown now going some);
          holds = λ some. absurd (none_shown now going some);
          marker_ends = λ read. absurd (no_marker now.current going.last going.pending read);
        })

    -- what is given then
    pub after_more : Consumes left_now left_new [] → (failures failures_after : ℕ) (result : Result (Option CodeItem) Fault)
        → AfterItem p (u ++ so.more) given (still_at left_new failures failures_after) new result
        → AfterItem p u given (record { before = left_old; after = left_new; failures = failures; failures_after = failures_after }) new result
    after_more ended failures failures_after (Ok (Some i)) gives = record {
      more = so.more ++ gives.more;
      consumed = consumed_on ended gives.more gives.consumed;
      have_given = subst (λ (v : List ℕ). HaveGiven p left_new v new (given ++ given_as new.current i ∷ [])) (append_assoc u so.more gives.more) gives.have_given;
      last = gives.last;
      no_sooner = sooner gives.more gives.no_sooner;
    }
    after_more ended failures failures_after (Ok None) gives = search (rules, consumed_on, append_assoc)
    after_more ended failures failures_after (Err f) gives = record {
      more = so.more ++ gives.more;
      consumed = consumed_on ended gives.more gives.consumed;
      stops = (stops_later f gives.more gives.stops gives.position).0;
      no_sooner = sooner gives.more gives.no_sooner;
      kept = gives.kept;
      position = (stops_later f gives.more gives.stops gives.position).1;
      last = gives.last;
      none_next = gives.none_next;
    }

-- ---- behind the last bytes

pub rest_none : (old : Items) → AreGoing old → old.has_read_all ≡ true → steps.ReadRestSoFar old old
rest_none old going all p u given left have = search (rules, nothing_next, false≢true)

module _ (p : Profile) (u : List ℕ) (given : List Given) (left : Option (List ℕ)) (now : Items) (so : RestSoFar p u given left now) (going : AreGoing now) (lexer : Standing) (current : Current) where
  abbrev new : Bool → Option Fault → Items
  new finished fault = record {
    lexer = lexer;
    current = current;
    unused = now.unused;
    has_read_all = now.has_read_all;
    is_finished = finished;
    fault = fault;
  }

  has_read : HasRead p (reads_as now.lexer now.current) so.tokens
  has_read = read_as so.rest.has_read refl refl refl tt

  module _ (is_end : Bool) (result : Result (Option CodeItem) Fault) (reads : ReadsLastToken now.lexer now.current lexer current is_end result) where
    after : AfterLastToken p u so.tokens lexer current is_end result
    after = reads.after p u so.tokens so.rest.rest has_read

  -- the tokens that are left behind the first
  left_behind : (t : Token) → HasLeft lexer u (so.tokens ++ t ∷ []) → MarkersEndAt (length u) (t ∷ coming lexer [])
  left_behind t left_now = search (rules, append_cancel_left, append_assoc)

  pub rest_on : ReadsLastToken now.lexer now.current lexer current false (Ok None) → RestSoFar p u given left (new false None)
  rest_on reads =
      let h = after false (Ok None) reads in
      record {
        tokens = so.tokens ++ h.0 ∷ [];
        rest = record {
          at_end = so.rest.at_end;
          short = so.rest.short;
          place = reads.count ∙ so.rest.place;
          rest = h.1;
          markers = (left_behind h.0 h.1).1;
          has_read = read_as h.2.has_read refl refl refl tt;
          not_finished = refl;
        };
        whole = h.2.gives ∙ append-nil (given_of (read p so.tokens).progress) ∙ so.whole;
      }

  pub rest_item : (i : CodeItem) (e : Bool) → now.has_read_all ≡ true → ReadsLastToken now.lexer now.current lexer current e (Ok (Some i)) → GivesItem p u given left left (new false None) i
  rest_item i true all reads = absurd (none-some i (sym (after true (Ok (Some i)) reads).0))
  rest_item i false all reads =
      let h = after false (Ok (Some i)) reads in
      record {
        more = [];
        consumed = Consumes-nil left;
        have_given = subst (λ (v : List ℕ). HaveGiven p left v (new false None) (given ++ given_as current i ∷ [])) (sym (append-nil u))
            (gives_one p u given left (new false None) i (so.tokens ++ h.0 ∷ [])
            (behind all (record {
              at_end = so.rest.at_end;
              short = so.rest.short;
              place = reads.count ∙ so.rest.place;
              rest = h.1;
              markers = (left_behind h.0 h.1).1;
              has_read = read_as h.2.0.has_read refl refl refl tt;
              not_finished = refl;
            }))
            (h.2.0.gives ∙ ap (λ (gs : List Given). gs ++ given_as current i ∷ given_next current) so.whole) h.2.1 reads.last.0 reads.last.1
            (λ read. record {
              before = so.tokens;
              last = h.0;
              is_last = refl;
              is_marker = h.3 read;
              ends = subst (EndsAt h.0.kind h.0.at) (sym (reads.count ∙ so.rest.place)) ((left_behind h.0 h.1).0 (h.3 read));
            }));
        last = reads.last.0;
        no_sooner = inl refl;
      }

  pub rest_ends : ReadsLastToken now.lexer now.current lexer current true (Ok None) → GivesNoItem p u given left left (new true None)
  rest_ends reads =
      let h = after true (Ok None) reads in
      record {
        more = [];
        consumed = Consumes-nil left;
        all = search (rules, append-nil, read_as);
        place = reads.count ∙ so.rest.place ∙ ap (length {A = ℕ}) (sym (append-nil u));
        whole = search (rules, append-nil);
        last = reads.last.0;
        none_next = reads.last.1;
      }

  pub rest_fault : (f : Fault) (e : Bool) → ReadsLastToken now.lexer now.current lexer current e (Err f) → (failures failures_after : ℕ)
      → GivesFault p u given (still_at left failures failures_after) (new false (Some f)) f
  rest_fault f e reads failures failures_after =
      let h = cut e reads in
      let all : tokens_of u ≡ (so.tokens ++ h.0 ∷ []) ++ h.1 = h.2 ∙ sym (append_assoc so.tokens (h.0 ∷ []) h.1) in
      let same : read p (tokens_of u) ≡ read p (so.tokens ++ h.0 ∷ []) = search (rules, stops_from) in search (rules, Consumes-nil, stops_at)
    where
      stops_at : (read p (tokens_of u)).fault ≡ Some f → given_of (read p (tokens_of u)).progress ≡ given
          → (stops : ItemsStop p (u ++ []) given (still_at left failures failures_after) f) × (position_at_fault (read p (tokens_of u)) ≡ position_at_items_stop stops)
      stops_at fault whole =
          subst (λ (v : List ℕ). (stops : ItemsStop p v given (still_at left failures failures_after) f)
          × (position_at_fault (read p (tokens_of u)) ≡ position_at_items_stop stops))
          (sym (append-nil u)) (at_end f so.rest.at_end so.rest.short fault whole, refl)

      cut : (e : Bool) → ReadsLastToken now.lexer now.current lexer current e (Err f)
          → (t : Token) × (rest : List Token) × (tokens_of u ≡ so.tokens ++ t ∷ rest) × Rejects p so.tokens (so.tokens ++ t ∷ []) current f
      cut e reads = search (rules, after)

-- what a token behind them does
module _ (now : Items) (going : AreGoing now) (all : now.has_read_all ≡ true) (lexer : Standing) (current : Current) where
  abbrev then : Bool → Bool → Option Fault → Items
  then read_all finished fault = record {
    lexer = lexer;
    current = current;
    unused = now.unused;
    has_read_all = read_all;
    is_finished = finished;
    fault = fault;
  }

  pub takes_last : (e read_all finished : Bool) (fault : Option Fault) (o : Option CodeItem) → read_all ≡ true → finished ≡ e → fault ≡ None
      → ReadsLastToken now.lexer now.current lexer current e (Ok o) → TakesAtEnd now (then read_all finished fault) e (Ok o)
  takes_last e read_all finished fault o is_all is_end none reads =
      rw (is_end, none, is_all ∙ sym all) (by e o reads)
    where
      by : (e : Bool) (o : Option CodeItem) → ReadsLastToken now.lexer now.current lexer current e (Ok o)
          → TakesAtEnd now (then now.has_read_all e None) e (Ok o)
      by false None reads = search (rules, after, rest_on)
      by true None reads = search (rules, rest_ends)
      by false (Some i) reads = record {
        after = λ p u given left so. rest_item p u given left now so going lexer current i false all reads;
        goes = tt;
        read_all = refl;
        count = reads.count;
        lowers = lowers_on now (then now.has_read_all false None) going refl (omega (arith, reads.nearer refl, reads.count));
      }
      by true (Some i) reads = record {
        after = λ p u given left so. absurd (none-some i (sym (reads.after p u so.tokens so.rest.rest (read_as so.rest.has_read refl refl refl tt)).0));
        goes = tt;
        read_all = refl;
        count = reads.count;
        lowers = lowers_end now (then now.has_read_all true None) going refl;
      }

  pub takes_last_fault : (f : Fault) (e : Bool) → ReadsLastToken now.lexer now.current lexer current e (Err f) → TakesAtEnd now (then true false (Some f)) e (Err f)
  takes_last_fault f e reads = subst (λ (read_all : Bool). TakesAtEnd now (then read_all false (Some f)) e (Err f)) all (record {
    after = λ p u given left so. rest_fault p u given left now so going lexer current f e reads;
    goes = by e;
    read_all = tt;
    count = reads.count;
    lowers = tt;
  })
    where
      by : (e : Bool) → steps.GoesOnAtEnd now (then now.has_read_all false (Some f)) e (Err f)
      by e = search rules

-- ---- an item that is given next

module _ (old : Items) (i : CodeItem) (next : old.current.pending ≡ Some i) where
  abbrev given_now : Items
  given_now = record old { current = record old.current { last = Some i; pending = None } }

  reads_same : (p : Profile) (left : Option (List ℕ)) (u : List ℕ) (tokens : List Token) → ItemsRead p left u old tokens → ItemsRead p left u given_now tokens
  reads_same p left u tokens (within is on) = within is on
  reads_same p left u tokens (behind is rest) = search (rules, has_read)
  reads_same p left u tokens (at_end is place all) = at_end is place all

  same_as : given_as given_now.current i ≡ given_as old.current i
  same_as = search rules

  pub gives_next : (p : Profile) (u : List ℕ) (given : List Given) (left : Option (List ℕ)) → HaveGiven p left u old given
      → GivesItem p u given left left given_now i
  gives_next p u given left have =
      let some : IsTrue (is_some old.current.last) = ap is_some (subst (λ (o : Option CodeItem). IsBehindTags o old.current.last) next have.behind) in
      let all : given ++ given_next old.current ≡ given ++ given_as given_now.current i ∷ [] = search (rules, same_as) in
      let held = keep (shown (given ++ given_as given_now.current i ∷ [])) (subst (λ (gs : List Given). IsSomeAnd (shown gs) (IsHeld old.current)) all (have.holds some)) in
      record {
        more = [];
        consumed = Consumes-nil left;
        have_given = subst (λ (v : List ℕ). HaveGiven p left v given_now (given ++ given_as given_now.current i ∷ [])) (sym (append-nil u)) (record {
          tokens = have.tokens;
          reads = reads_same p left u have.tokens have.reads;
          whole = have.whole ∙ all ∙ sym (append-nil (given ++ given_as given_now.current i ∷ []));
          behind = tt;
          shows = λ is. shows_given given_now.current i given refl (more held) tt;
          holds = λ is. more held;
          marker_ends = λ read. have.marker_ends (read_before read);
        });
        last = refl;
        no_sooner = inl refl;
      }
    where
      either : (a b c : Bool) → IsTrue (b || false) → c ≡ b → IsTrue (a || c)
      either a b c h is = search (rules, false≢true)

      read_before : IsTrue (has_read_marker given_now.current) → IsTrue (has_read_marker old.current)
      read_before read = search (rules, either)

      keep : (o : Option Shown) → IsSomeAnd o (IsHeld old.current) → IsSomeAnd o (IsHeld given_now.current)
      keep o h = search rules

      more : IsSomeAnd (shown (given ++ given_as given_now.current i ∷ [])) (IsHeld given_now.current)
          → IsSomeAnd (shown ((given ++ given_as given_now.current i ∷ []) ++ given_next given_now.current)) (IsHeld given_now.current)
      more h = subst (λ (gs : List Given). IsSomeAnd (shown gs) (IsHeld given_now.current)) (sym (append-nil (given ++ given_as given_now.current i ∷ []))) h

-- ---- no item was given last

module _ (old : Items) (none : old.current.pending ≡ None) where
  abbrev pub forgotten : Items
  forgotten = record old { current = record old.current { last = None } }

  pub forgets : (p : Profile) (u : List ℕ) (given : List Given) (left : Option (List ℕ)) → HaveGiven p left u old given → HaveGiven p left u forgotten given
  forgets p u given left have = record {
    tokens = have.tokens;
    reads = by have.reads;
    whole = search rules;
    behind = subst (λ (o : Option CodeItem). IsBehindTags o None) (sym none) tt;
    shows = λ some. absurd (false≢true some);
    holds = λ some. absurd (false≢true some);
    marker_ends = λ read. absurd (no_marker forgotten.current refl none read);
  }
    where
      by : ItemsRead p left u old have.tokens → ItemsRead p left u forgotten have.tokens
      by (within is on) = within is on
      by (behind is rest) = search (rules, has_read)
      by (at_end is place all) = at_end is place all

  -- all was given
  pub gives_none : old.is_finished ≡ true → (p : Profile) (u : List ℕ) (given : List Given) (left : Option (List ℕ)) → HaveGiven p left u old given
      → GivesNoItem p u given left left forgotten
  gives_none is p u given left have = record {
    more = [];
    consumed = Consumes-nil left;
    all = subst (λ (v : List ℕ). HasReadAll p left v (games_of_items forgotten) (tokens_of v)) (sym (append-nil u)) whole.0;
    whole = subst (λ (v : List ℕ). given_of (read p (tokens_of v)).progress ≡ given) (sym (append-nil u)) whole.1;
    place = place_of have.reads ∙ ap (length {A = ℕ}) (sym (append-nil u));
    last = refl;
    none_next = none;
  }
    where
      place_of : ItemsRead p left u old have.tokens → old.lexer.count ≡ length u
      place_of h1 = search (rules, false≢true)

      by : ItemsRead p left u old have.tokens → HasReadAll p left u (games_of_items old) (tokens_of u) × (have.tokens ≡ tokens_of u)
      by h1 = search (rules, false≢true)

      whole : HasReadAll p left u (games_of_items forgotten) (tokens_of u) × (given_of (read p (tokens_of u)).progress ≡ given)
      whole = search (rules, by, append-nil)

-- what giving the item does that is given next
module _ (c : Current) where
  pub gives_nothing : c.pending ≡ None → giving_next c ≡ c
  gives_nothing none = search rules

  pub gives_some : (i : CodeItem) → c.pending ≡ Some i → giving_next c ≡ record c { last = Some i; pending = None }
  gives_some i is = ap (λ (o : Option CodeItem). elim o [ None ↦ c | Some i ↦ record c { last = Some i; pending = None } ]) is
