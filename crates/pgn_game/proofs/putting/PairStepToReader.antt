-- What putting a step of the tag section does, or nothing.
use Rattle.pgn_game.proofs.Words.{◌≡◌, ℕ, false, List, [], Option, None, Some, sym, ◌∙◌, le_refl, arith, IfSome, Ok, drop-length, Appends, Appends-nil, Parts, Stage, Between, AfterLeftBracket, AfterTags, AfterName, AfterValue, InMovetext, Profile, Pair, has_pair, insert_pair, Item, Part, More, start_of, TagPairs, torn, Next, at_stage, going, Movetext, movetext_from, movetext_after_fen, GameState, Agrees, fen_position, PutResult, gain_to, rules}
use Rattle.std.proofs.Math.ListN.{drop_of_length-le}
use Rattle.pgn_game.proofs.putting.ItemToMovetext.{from_to}
use Rattle.pgn_game.proofs.refusals.ReaderToPart.{begun_name, held_at, text_at}
use Rattle.pgn_game.proofs.putting.ItemToReader.{more_comes}
use Rattle.pgn_game.proofs.pairs.PairsToFirstPosition.{with_pair, start_found, start_kept}

-- before movetext nothing stands written
nothing_torn : (p : Profile) (stage : Stage) (ps : List Pair) (name : List ℕ) (items : List Item) → (stage ≡ InMovetext → ⊥)
    → torn p (record { stage = stage; pairs = ps; name = name; items = items }) ≡ []
nothing_torn p stage ps name items before = grind arith

pub no_torn : (p : Profile) (part : Part) (stage : Stage) → part.stage ≡ stage → (stage ≡ InMovetext → ⊥) → torn p part ≡ []
no_torn p part stage at before = nothing_torn p _ _ _ _ (λ e. before (sym at ∙ e))

-- so that nothing is added
adds_nothing : (p : Profile) (part to : Part) (o : Option (List ℕ)) → torn p to ≡ [] → Appends o o (gain_to p part (going to))
adds_nothing p part to o none = search (rules, Appends-nil, drop_of_length-le)

-- A step goes from a stage in which the game has begun to another one, and to a part that the
-- reader then agrees with.
pub record IsStep (old new : GameState) (part : Part) (next : Next) : Type 0 where
  pub to : Part
  pub leads : going to ≡ next
  pub agrees : Agrees new to

-- The reader has new pairs, and perhaps a new first position.
steps : (old new : GameState) (to : Part → Next) (from stage : Stage) (tags : TagPairs) (start : Option Parts) (o : Option (List ℕ)) (n : ℕ)
    → new ≡ record old { stage = stage; tags = tags; text = movetext_after_fen start old.text }
    → old.stage ≡ from → (from ≡ Between → ⊥) → (from ≡ InMovetext → ⊥) → (stage ≡ Between → ⊥) → (stage ≡ InMovetext → ⊥)
    → ((part : Part) → Agrees old part
    → IsStep old (record old { stage = stage; tags = tags; text = movetext_after_fen start old.text }) part (to part))
    → PutResult old (Agrees old) to new (Ok More) (from_to o o n n)
steps old new to from stage tags start o n is at begun unread goes before each = search (rules, le_refl, from_to, more_comes, no_torn, adds_nothing)

-- where a game begins once the pair is held
begins_with : (name value : List ℕ) (ps : List Pair) (start : Option Parts) (text : Movetext)
    → has_pair ps name ≡ false → fen_position name value ≡ Ok start → text ≡ movetext_from (start_of ps)
    → movetext_after_fen start text ≡ movetext_from (start_of (with_pair name value ps))
begins_with name value ps start text new told is = grind (arith, start_found, start_kept)

abbrev pub completed : List ℕ → List ℕ → List Pair → TagPairs
completed name value ps = record { held = with_pair name value ps; pending_name = None }

-- what the tokens of a tag pair lead to
abbrev pub to_name : List ℕ → Part → Next
to_name name part = going (record { stage = AfterName; pairs = part.pairs; name = name; items = part.items })

abbrev pub to_value : List ℕ → Part → Next
to_value value part =
    going (record { stage = AfterValue; pairs = insert_pair (record { name = part.name; value = value }) part.pairs; name = []; items = part.items })

abbrev pub to_stage : Stage → Part → Next
to_stage stage part = going (at_stage stage part)

module _ (old : GameState) where
  pub puts_value : (new : GameState) (value name : List ℕ) (start : Option Parts) (held : TagPairs) (o : Option (List ℕ)) (n : ℕ)
      → old.stage ≡ AfterName → IfSome old.tags.pending_name (λ m. held ≡ completed m value old.tags.held) → old.tags.pending_name ≡ Some name
      → fen_position name value ≡ Ok start → new ≡ record old { stage = AfterValue; tags = held; text = movetext_after_fen start old.text }
      → PutResult old (Agrees old) (to_value value) new (Ok More) (from_to o o n n)
  puts_value new value name start held o n at completes begun told is = search (rules, begun_name, held_at, text_at, with_pair, steps, begins_with)

  -- nothing changes at a comment in the tag section, or at a token between games
  pub puts_nothing : (o : Option (List ℕ)) (n : ℕ) → PutResult old (Agrees old) going old (Ok More) (from_to o o n n)
  puts_nothing o n = search (rules, le_refl, drop-length, Appends-nil, more_comes)

  -- a bracket changes the stage alone
  pub puts_left_bracket : (new : GameState) (o : Option (List ℕ)) (n : ℕ) → old.stage ≡ AfterTags
      → new ≡ record old { stage = AfterLeftBracket } → PutResult old (Agrees old) (to_stage AfterLeftBracket) new (Ok More) (from_to o o n n)
  puts_left_bracket new o n at is = search (rules, held_at, steps)

  pub puts_right_bracket : (new : GameState) (o : Option (List ℕ)) (n : ℕ) → old.stage ≡ AfterValue → new ≡ record old { stage = AfterTags }
      → PutResult old (Agrees old) (to_stage AfterTags) new (Ok More) (from_to o o n n)
  puts_right_bracket new o n at is = search (rules, held_at, steps)

  pub puts_name : (new : GameState) (name : List ℕ) (held : TagPairs) (o : Option (List ℕ)) (n : ℕ) → old.stage ≡ AfterLeftBracket
      → has_pair old.tags.held name ≡ false → held ≡ record old.tags { pending_name = Some name }
      → new ≡ record old { stage = AfterName; tags = held } → PutResult old (Agrees old) (to_name name) new (Ok More) (from_to o o n n)
  puts_name new name held o n at fresh begins is = search (rules, held_at, steps)
