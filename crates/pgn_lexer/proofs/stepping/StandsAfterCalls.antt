-- A call carries how the lexer stands.
use Rattle.pgn_lexer.proofs.Words.{◌≡◌, Bool, true, false, ℕ, ◌+◌, ◌<◌, ◌≤◌, inl, inr, List, [], ◌∷◌, ◌++◌, length, take, drop, refl, sym, ap, subst, ◌∙◌, append_assoc, arith, length-append, length-take-le, take-append-drop, Option, None, Some, take_while, ◌⊎◌, AllByRecursion, LexFault, LexMode, Token, tokens_of, decided, known, TokenForm, PartialToken, tokens_to_come, token_of, kind_in, refusal, HasNotFailed, RunsOut, StoodAt, EndsWithByte, EndsBeforeByte, RunsToToken, RunsToFault, Scanned, more, fault, Standing, fault_in_mode, fault_of, Follows, first, still, StandsAfter, EndsNoSooner, Scans, AfterScan, rules}
use Rattle.pgn_lexer.specs.Scanned.{token}
use Rattle.pgn_lexer.proofs.deciding.GivenAreDecided.{common_of, decided_is, going_decides, known_decides}
use Rattle.pgn_lexer.proofs.deciding.CommonTokens.{common_front}
use Rattle.pgn_lexer.proofs.deciding.TextSettles.{few}
use Rattle.pgn_lexer.proofs.cutting.PlacesOfTokens.{AllFrom, tokens_from-from, all_from-front, take_before}

-- what may follow the front of a piece
module _ (b : Option ℕ) (piece : List ℕ) where
  follows_front : (s : List ℕ) (used : ℕ) → 0 < length piece → Follows b piece → Follows (first (drop used piece)) s
      → Follows b (take used piece ++ s)
  follows_front s used h1 h2 h3 = grind arith

  follows_piece : (s : List ℕ) → Follows b piece → Follows (still b piece) s → Follows b (piece ++ s)
  follows_piece s h1 h2 = grind arith

  still_none : 0 < length piece → still b piece ≡ None
  still_none h1 = grind arith

follows_none : (o : Option ℕ) (s : List ℕ) → o ≡ None → Follows o s
follows_none o s e = rw e tt

follows_taken : (b : Option ℕ) (piece s : List ℕ) (used : ℕ) → 0 < length piece → 0 < used → Follows b piece
    → Follows b (take used piece ++ s)
follows_taken b piece s used h1 h2 h3 = grind arith

cut : (used : ℕ) (piece s : List ℕ) → piece ++ s ≡ take used piece ++ (drop used piece ++ s)
cut used piece s = ap (λ l. l ++ s) (sym (take-append-drop _ _)) ∙ append_assoc _ _ s

no_fault_in_mode : (m : LexMode) (at : ℕ) → HasNotFailed m → fault_in_mode m at ≡ None
no_fault_in_mode m at h1 = grind arith

pub not_failed_fault : (h : PartialToken) → HasNotFailed h.mode → fault_in_mode h.mode h.at ≡ None
not_failed_fault h not_failed = no_fault_in_mode _ _ not_failed

failed_or_not : (m : LexMode) (at : ℕ) → HasNotFailed m ⊎ ((f : LexFault) × (fault_in_mode m at ≡ Some f))
failed_or_not (LexMode.Failed reason) at = inr (record { at = at; reason = reason }, refl)
failed_or_not _ at = inl tt

before_more : (m n : ℕ) (ts : List Token) → m ≤ n → AllByRecursion (λ t. t.at < m) ts → AllByRecursion (λ t. t.at < n) ts
before_more m n [] less all = tt
before_more m n (t ∷ ts) less all = grind (arith, before_more m n ts)

before_one : (n : ℕ) (ts : List Token) (t : Token) → AllByRecursion (λ t. t.at < n) ts → t.at < n
    → AllByRecursion (λ t. t.at < n) (ts ++ t ∷ [])
before_one n [] t all here = (here, tt)
before_one n (u ∷ ts) t all here = (all.0, before_one n ts t all.1 here)

-- what is known with the byte that comes, where a lexer stands between tokens before it
known_is : (u : List ℕ) (b : ℕ) (given : List Token) (comes : List ℕ → List Token) → AllByRecursion (λ t. t.at < length u) given
    → AllFrom (length u) (comes (b ∷ [])) → ((s : List ℕ) → tokens_of (u ++ b ∷ s) ≡ given ++ comes (b ∷ s)) → given ≡ known u b
known_is u b given comes before from tokens =
    let later : List ℕ → List Token = λ s. comes (b ∷ s) in
    let all : decided (u ++ b ∷ []) ≡ given ++ common_of (later []) (later (49 ∷ [])) (later (33 ∷ [])) _ (later (191 ∷ [])) _ =
    decided_is given (u ++ b ∷ []) later (λ s. ap tokens_of (append_assoc u _ s) ∙ tokens s) in
    let front = common_front (later []) _ in
    sym (ap (take_while _) all
    ∙ take_before _ given _ before (all_from-front _ _ front.0 (rw front.1 at from)))

pub same_parts : (i j : Token) → i.at ≡ j.at → i.kind ≡ j.kind → i ≡ j
same_parts i j at kind = grind arith

module _ (count : ℕ) (old new : PartialToken) (piece : List ℕ) (used : ℕ) where
  abbrev ahead : Standing
  ahead = record { count = count; held = old }

  abbrev behind : Standing
  behind = record { count = count + used; held = new }

  no_fault : HasNotFailed old.mode → (f : LexFault) → fault_of ahead ≡ Some f → ⊥
  no_fault h f failed = grind arith

  pub scans_nothing : RunsOut count old piece new used → Scans ahead piece behind used more
  scans_nothing h =
      record {
        count = refl;
        advances = tt;
        few = few new.mode;
        reads = (h.all, h.comes);
        lengths = tt;
        ends = tt;
        refused = not_failed_fault new h.not_failed;
        empty = λ none. (same none, inl refl);
        stays = λ f failed. absurd (no_fault h.fresh f failed);
        carries = λ u b given stands starts.
            let after : StandsAfter behind (u ++ piece) (still b piece) given =
            record {
              count = omega (arith, h.all, stands.count, length-append u piece);
              before = before_more (length u) _ given (omega (arith, length-append u piece)) stands.before;
              tokens = search (rules, append_assoc, follows_piece);
            } in (
              h.all,
              after,
              λ some. going_decides (count + used) new (u ++ piece) given h.sound h.not_failed
                  (λ s. after.tokens s (follows_none _ s (still_none b piece some))),
            );
      }
    where
      same : length piece ≡ 0 → behind ≡ ahead
      same none = grind arith

  scans_fault : (f : LexFault) → RunsToFault count old piece f new used → Scans ahead piece behind used (fault f)
  scans_fault f h =
      record {
        count = refl;
        advances = tt;
        few = few new.mode;
        reads = whole;
        lengths = tt;
        ends = tt;
        refused = h.fails;
        empty = λ none. nothing none (failed_or_not _ _);
        stays = λ g failed. stuck g (h.stays g failed);
        carries = λ u b given stands starts. (
          λ s goes. comes u b given stands s (follows_piece b piece s starts goes),
          λ some. known_decides (u ++ piece) given (refusal f ∷ [])
              (λ s. comes u b given stands s (follows_piece b piece s starts (follows_none _ s (still_none b piece some)))),
        );
      }
    where
      whole : (s : List ℕ) → tokens_to_come count old (piece ++ s) ≡ refusal f ∷ []
      whole s = ap (tokens_to_come _ old) (cut used _ s) ∙ h.comes _

      comes : (u : List ℕ) (b : Option ℕ) (given : List Token) → StandsAfter ahead u b given → (s : List ℕ) → Follows b (piece ++ s)
          → tokens_of ((u ++ piece) ++ s) ≡ given ++ refusal f ∷ []
      comes u b given stands s goes = cc (append_assoc u piece s, stands.tokens (piece ++ s) goes, whole s)

      stuck : (g : LexFault) → (used ≡ 0) × (f ≡ g) × (new ≡ old) → (used ≡ 0) × (fault f ≡ fault g) × (behind ≡ ahead)
      stuck g same = grind arith

      nothing : length piece ≡ 0 → HasNotFailed old.mode ⊎ ((g : LexFault) × (fault_of ahead ≡ Some g))
          → (behind ≡ ahead) × ((fault f ≡ more) ⊎ ((g : LexFault) × (fault_of ahead ≡ Some g)))
      nothing h1 h2 = grind arith

  pub scans_told : (f g : LexFault) → f ≡ g → RunsToFault count old piece g new used → Scans ahead piece behind used (fault f)
  scans_told f g same h = scans_fault f (rw same h)

  module _ (t : Token) (h : RunsToToken count old piece t new used) where
    reads_token : (s : List ℕ) → tokens_to_come count old (piece ++ s) ≡ t ∷ tokens_to_come (count + used) new (drop used piece ++ s)
    reads_token s = grind (arith, cut)

    module _ (u : List ℕ) (b : Option ℕ) (given : List Token) (stands : StandsAfter ahead u b given) (starts : Follows b piece) where
      -- the bytes used so far
      abbrev u' : List ℕ
      u' = u ++ take used piece

      long : count + used ≡ length u'
      long = grind (arith, length-append, length-take-le)

      before' : AllByRecursion (λ t. t.at < length u') (given ++ t ∷ [])
      before' =
          let less : length u ≤ length u' = omega (arith, length-append u (take used piece)) in
          before_one _ given t (before_more _ _ given less stands.before) (rw long at h.before)

      with_token : (s : List ℕ) → Follows b (take used piece ++ s)
          → tokens_to_come count old (take used piece ++ s) ≡ t ∷ tokens_to_come (count + used) new s
          → tokens_of (u' ++ s) ≡ (given ++ t ∷ []) ++ tokens_to_come (count + used) new s
      with_token s goes comes = grind (arith, append_assoc)

      -- where no token had ended, no more was decided
      stood_decides : (i : ℕ) → 0 < i → StoodAt count old piece i → given ≡ decided (u ++ take i piece)
      stood_decides i some e =
          going_decides (count + i) e.held (u ++ take i piece) given e.sound e.not_failed
          (λ s. ap tokens_of (append_assoc u _ s)
          ∙ stands.tokens _ (follows_taken b piece s i h.some some starts) ∙ ap (λ l. given ++ l) (e.comes s))

      no_sooner_closed : (k : Bool) → k ≡ false → (last : ℕ) → used ≡ last + 1 → StoodAt count old piece last
          → EndsNoSooner k u piece used given
      no_sooner_closed k e last is_last stood = grind (arith, stood_decides)

      no_sooner_run : (k : Bool) → k ≡ true → StoodAt count old piece used → EndsNoSooner k u piece used given
      no_sooner_run k h1 h2 = grind (arith, stood_decides)

      -- or before a byte that was not used
      next_comes : (e : EndsBeforeByte count old piece (take used piece) (drop used piece) t new used) (s : List ℕ) → Follows (Some e.byte) s
          → tokens_to_come count old (take used piece ++ s) ≡ t ∷ tokens_to_come (count + used) new s
      next_comes e s h1 = grind arith

      -- the token ended with the last byte used, or before a byte that was not used
      ends_with : EndsWithByte count old piece (take used piece) t new used → AfterScan u b given piece behind used (token t)
      ends_with e =
          let tokens : (s : List ℕ) → tokens_of (u' ++ s) ≡ (given ++ t ∷ []) ++ tokens_to_come _ new s =
          λ s. with_token s (follows_taken b piece s used h.some e.some starts) (e.comes s) in (
            record { count = long; before = before'; tokens = λ s goes. tokens s },
            inl (going_decides _ new u' _ h.sound h.not_failed tokens),
            no_sooner_closed _ e.closed e.last e.is_last e.stood,
          )

      ends_before : EndsBeforeByte count old piece (take used piece) (drop used piece) t new used → AfterScan u b given piece behind used (token t)
      ends_before e =
          let tokens : (s : List ℕ) → Follows (first (drop used piece)) s → tokens_of (u' ++ s)
          ≡ (given ++ t ∷ []) ++ tokens_to_come (count + used) new s = search (rules, with_token, follows_front, next_comes) in
          let from : AllFrom (length u') (tokens_to_come (count + used) new (e.byte ∷ [])) =
          subst (λ n. AllFrom n (tokens_to_come (count + used) new (e.byte ∷ []))) long
          (rw (e.settled _) (tokens_from-from (count + used) e.within (e.byte ∷ []))) in (
            record { count = long; before = before'; tokens = tokens },
            inr (e.byte, ap first e.next, known_is u' _ _ (tokens_to_come _ new) before' from (λ s. tokens _ (rw e.next refl))),
            no_sooner_run _ e.runs e.stood,
          )

    pub scans_token : Scans ahead piece behind used (token t)
    scans_token =
        record {
          count = refl;
          advances = h.advances;
          few = few new.mode;
          reads = reads_token;
          lengths = h.lengths;
          ends = h.ends_at;
          refused = not_failed_fault new h.not_failed;
          empty = λ none. let some : 0 < length piece = h.some in absurd (omega arith);
          stays = λ f failed. absurd (no_fault h.fresh f failed);
          carries = λ u b given stands starts.
              elim h.ends [ inl e ↦ ends_with u b given stands starts e | inr e ↦ ends_before u b given stands starts e ];
        }

  pub scans_form : (form : TokenForm) (t : Token) → t.at ≡ new.at → t.kind ≡ kind_in form new.text
      → RunsToToken count old piece (token_of form new) new used → Scans ahead piece behind used (token t)
  scans_form form t at kind h = rw (same_parts t _ at kind) (scans_token _ h)

-- what is said of one view of a lexer, of the other
pub scans_of : (old old' new : Standing) (piece : List ℕ) (used : ℕ) (seen : Scanned) → old ≡ old' → Scans old piece new used seen
    → Scans old' piece new used seen
scans_of old old' new piece used seen e = grind arith
