-- Which inode has a block, and what stands there, in a sound image and in the state that it says.
use Rattle.std.proofs.Common.{◌≡◌, ℕ, zero, suc, ◌+◌, ◌*◌, ◌<◌, ◌≤◌, Bool, true, false, cond, List, [], ◌∷◌, ◌++◌, map, take, drop, Option, Some, None, inl, inr, refl, sym, ap, ap₂, subst, ◌∙◌, arith}
use Rattle.std.specs.Prelude.{◌||◌, ◌==◌}
use Rattle.std.specs.Option.{option_map, option_and_then}
use Rattle.std.proofs.lemmas.Bool.{cases_Bool, cases_lt, true≢false, eqb-true, or_parts}
use Rattle.std.proofs.lemmas.List.Folds.{list_any-append}
use Rattle.vx_base.specs.declared.kind.FileKind.{FileKind}
use Rattle.vx_base.specs.declared.kind.FileKind.TheVariants.{File, Directory}
use Rattle.vx_base.specs.declared.inode.DirEntry.{DirEntry}
use Rattle.vx_base.specs.declared.inode.Extent.{Extent}
use Rattle.vx_base.specs.declared.inode.InodeValue.{InodeValue}
use Rattle.vx_layout.specs.Places.{Volume}
use Rattle.vx_layout.specs.Supers.{volume_of}
use Rattle.vx_layout.specs.declared.superblock.Super.{Super}
use Rattle.vx_sound.specs.Said.{Image, among, inode_count, inode_said, map_said, chain_said, extents_said, blocks_said, blocks_by_kind, claimed_by, claims_below, entries_said}
use Rattle.vx_sound.specs.Facts.{AreClaimable}
use Rattle.vx_sound.specs.Reading.{Extents, HasWholeBlocks, owner_below, owner, form_by_kind, form_in, form_said, ClaimLaws}
use Rattle.vx_sound.specs.Sound.{IsSound}
use Rattle.vx_sound.proofs.Sounds.{claims_more}
use Rattle.vx_extents.specs.Extents.{Mapped, stretches}
use Rattle.vx_space.specs.Space.{page_blocks, maps_for}
use Rattle.vx_space.specs.Uses.{uses}
use Rattle.vx_model.specs.Layout.{Claim, Claimed, block_numbers, owned, settled_at, settled_maps, chain_of, chain_at, names_claimed, page_claimed, claimed_at, claim_among, or_claim, claim_below, claim_of}
use Rattle.vx_model.specs.Reads.{pages_said}
use Rattle.vx_model.specs.LaidOut.{Owns, IsOnceUsed}
use Rattle.vx_model.proofs.Stretching.{extents_blocks}
use Rattle.vx_model.proofs.Uses.{uses_append, not_among, is_among, among_uses}
use Rattle.vx_said.proofs.Stretches.{block_with}
use Rattle.vx_said.proofs.Chains.{link_with}
use Rattle.vx_said.proofs.Inodes.{low, chain_links}
use Rattle.vx_said.proofs.States.{layout, blocks_of, space_by, space_of, maps_of, settled_extents, settled_chain}

among_both : (xs ys : List ℕ) (b : ℕ) → among (xs ++ ys) b ≡ (among xs b || among ys b)
among_both xs ys b = list_any-append (λ y. b == y) xs ys

-- ---- what may be claimed stands once

-- a block stands in a list once at most, and then not before
record IsOnce (before : List ℕ) (b n : ℕ) : Type 0 where
  few : n ≤ 1
  new : 1 ≤ n → among before b ≡ false

once_by : (before : List ℕ) (x b n : ℕ) (t : Bool) → (b == x) ≡ t → among before x ≡ false → IsOnce (before ++ x ∷ []) b n → IsOnce before b (cond t 1 0 + n)
once_by before x b n true e new rest =
    let same : b ≡ x = eqb-true b x e in
    let here : among (before ++ x ∷ []) b ≡ true = among_both before (x ∷ []) b ∙ ap (λ (t : Bool). among before b || (t || false)) e ∙ or_true (among before b) in
    record {
      few = elim (cases_lt 0 n) [
        | inl some ↦ absurd (true≢false (sym here ∙ rest.new (omega (arith, some))))
        | inr none ↦ omega (arith, none)
      ];
      new = λ some. ap (among before) same ∙ new;
    }
  where
    or_true : (t : Bool) → (t || true) ≡ true
    or_true true = refl
    or_true false = refl
once_by before x b n false e new rest = record {
  few = (let few = rest.few in omega (arith, few));
  new = λ some. (or_parts (among before b) (among (x ∷ []) b) (sym (among_both before (x ∷ []) b) ∙ rest.new (omega (arith, some)))).0;
}

claimable_once : (v : Volume) (before xs : List ℕ) (b : ℕ) → AreClaimable v before xs → IsOnce before b (uses xs b)
claimable_once v before [] b h = record { few = omega arith; new = λ some. absurd (omega (arith, some)) }
claimable_once v before (x ∷ xs) b h = once_by before x b (uses xs b) (b == x) refl h.0.new (claimable_once v (before ++ x ∷ []) xs b h.1)

numbers_again : (es : ℕ → List DirEntry) (bs : List ℕ) → block_numbers (map (block_with es) bs) ≡ bs
numbers_again es [] = refl
numbers_again es (b ∷ bs) = ap (λ (xs : List ℕ). b ∷ xs) (numbers_again es bs)

module _ (laws : ClaimLaws) (once : (v : Volume) (image : Image) → IsSound true v image → AreClaimable v [] (claims_below v image (inode_count v)))
    (v : Super) (device_sectors : ℕ) (image : Image) (whole : HasWholeBlocks (volume_of v)) (sound : IsSound true (volume_of v) image) where
  abbrev w : Volume
  w = volume_of v

  abbrev claims_at : ℕ → List ℕ
  claims_at n = claimed_by w image (inode_said w image n)

  -- ---- each block is used once

  fewer_uses : (b m n : ℕ) → m < n → uses (claims_at m) b ≤ uses (claims_below w image n) b
  fewer_uses b m zero less = absurd (omega (arith, less))
  fewer_uses b m (suc n) less =
      let more : uses (claims_below w image (suc n)) b ≡ uses (claims_below w image n) b + uses (claims_at n) b =
      ap (λ (xs : List ℕ). uses xs b) (claims_more w image n) ∙ uses_append (claims_below w image n) (claims_at n) b in
      elim (cases_lt m n) [
        | inl before ↦ (let rest = fewer_uses b m n before in omega (arith, more, rest))
        | inr last ↦ (let same : n ≡ m = omega (arith, less, last) in subst (λ (k : ℕ). uses (claims_at k) b ≤ uses (claims_below w image (suc n)) b) same (omega (arith, more)))
      ]

  claimed_low : (n b : ℕ) → (o : Option InodeValue) → inode_said w image n ≡ o → among (claimed_by w image o) b ≡ true → n < 128 * v.units
  claimed_low n b None e h = absurd cc
  claimed_low n b (Some i) e h = low v image whole sound n i e

  claimed_few : (n b : ℕ) → uses (claims_at n) b ≤ 1
  claimed_few n b = elim (cases_Bool (among (claims_at n) b)) [
    | inl here ↦
        let fewer = fewer_uses b n (inode_count w) (claimed_low n b (inode_said w image n) refl here) in
        let few = (claimable_once w [] (claims_below w image (inode_count w)) b (once w image sound)).few in
        omega (arith, fewer, few)
    | inr gone ↦ (let none = not_among (claims_at n) b gone in omega (arith, none))
  ]

  kind_uses : (k : FileKind) (i : InodeValue) (b : ℕ)
      → uses (block_numbers (map (block_with (entries_said w image)) (blocks_by_kind w image i k)) ++ (page_blocks (space_by v device_sectors image k i).present ++ chain_said w image i)) b ≡ uses (claimed_by w image (Some i)) b
  kind_uses File i b =
      ap (λ (xs : List ℕ). uses (xs ++ chain_said w image i) b) (sym (extents_blocks (extents_said w image i)))
      ∙ omega (arith, uses_append (blocks_said w image i) (chain_said w image i) b, uses_append (chain_said w image i) (blocks_said w image i) b)
  kind_uses Directory i b =
      ap (λ (xs : List ℕ). uses (xs ++ chain_said w image i) b) (numbers_again (entries_said w image) (blocks_said w image i))
      ∙ omega (arith, uses_append (blocks_said w image i) (chain_said w image i) b, uses_append (chain_said w image i) (blocks_said w image i) b)

  uses_by : (b : ℕ) (o : Option InodeValue)
      → uses (block_numbers (blocks_of v device_sectors image o) ++ (page_blocks (space_of v device_sectors image o).present ++ maps_of v device_sectors image o)) b ≡ uses (claimed_by w image o) b
  uses_by b None = refl
  uses_by b (Some i) = kind_uses i.inode.kind i b

  same_uses : (n b : ℕ) → uses (owned (layout v device_sectors image) n) b ≡ uses (claims_at n) b
  same_uses n b = uses_by b (inode_said w image n)

  owns_claims : (n b : ℕ) → Owns (layout v device_sectors image) n b → among (claims_at n) b ≡ true
  owns_claims n b owns =
      let some = among_uses (owned (layout v device_sectors image) n) b owns in
      let same = same_uses n b in
      is_among (claims_at n) b (omega (arith, some, same))

  owns_low : (n b : ℕ) → Owns (layout v device_sectors image) n b → n < 128 * v.units
  owns_low n b owns = claimed_low n b (inode_said w image n) refl (owns_claims n b owns)

  owner_of : (n b : ℕ) → Owns (layout v device_sectors image) n b → owner w image b ≡ Some n
  owner_of n b owns = laws.owner_is true w image b n sound (owns_low n b owns) (owns_claims n b owns)

  one_owner : (n m : ℕ) (o : Option ℕ) → o ≡ Some n → o ≡ Some m → n ≡ m
  one_owner n m o e f = let same : Some n ≡ Some m = sym e ∙ f in cc

  pub once_used : IsOnceUsed (layout v device_sectors image)
  once_used = record {
    once = λ n m b x y. one_owner n m (owner w image b) (owner_of n b x) (owner_of m b y);
    apart = λ n b. (let same = same_uses n b in let few = claimed_few n b in omega (arith, same, few));
    data_blocks = λ n b owns. laws.data_blocks true w image b n sound (owner_of n b owns);
    not_pending = λ n b owns. refl;
    low = owns_low;
  }

  -- ---- what is claimed

  -- a page of an inode of this kind
  abbrev page_claim : FileKind → ℕ → ℕ → Claim
  page_claim k n b = record { ino = n; form = form_by_kind w image b k }

  abbrev map_claim : ℕ → ℕ → Claim
  map_claim n b = record { ino = n; form = Some (Extents (map_said w image b)) }

  found_by : (claim : ℕ → Claim) (b x : ℕ) (t u : Bool) (rest other : Option Claim) → (b == x) ≡ t → rest ≡ cond u (Some (claim b)) other → cond t (Some (claim x)) rest ≡ cond (t || u) (Some (claim b)) other
  found_by claim b x true u rest other e h = ap (λ k. Some (claim k)) (sym (eqb-true b x e))
  found_by claim b x false u rest other e h = h

  names_among : (n b : ℕ) (bs : List ℕ) (cs : List Claimed) → claim_among n b (map names_claimed (map (block_with (entries_said w image)) bs) ++ cs) ≡ cond (among bs b) (Some (page_claim Directory n b)) (claim_among n b cs)
  names_among n b [] cs = refl
  names_among n b (x ∷ bs) cs = found_by (page_claim Directory n) b x (b == x) (among bs b) _ (claim_among n b cs) refl (names_among n b bs cs)

  pages_among : (n b : ℕ) (pages : List Mapped) (cs : List Claimed) → claim_among n b (map page_claimed pages ++ cs) ≡ cond (among (page_blocks pages) b) (Some (page_claim File n b)) (claim_among n b cs)
  pages_among n b [] cs = refl
  pages_among n b (m ∷ pages) cs = found_by (page_claim File n) b m.block (b == m.block) (among (page_blocks pages) b) _ (claim_among n b cs) refl (pages_among n b pages cs)

  kind_among : (k : FileKind) (i : InodeValue) (n b : ℕ) (cs : List Claimed)
      → claim_among n b (map names_claimed (map (block_with (entries_said w image)) (blocks_by_kind w image i k)) ++ (map page_claimed (space_by v device_sectors image k i).settled ++ cs))
      ≡ cond (among (blocks_said w image i) b) (Some (page_claim k n b)) (claim_among n b cs)
  kind_among File i n b cs =
      pages_among n b (pages_said w image i) cs
      ∙ ap (λ (bs : List ℕ). cond (among bs b) (Some (page_claim File n b)) (claim_among n b cs)) (sym (extents_blocks (extents_said w image i)))
  kind_among Directory i n b cs = names_among n b (blocks_said w image i) cs

  links_among : (n extents maps b : ℕ) (bs : List ℕ) → claim_among n b (map (link_with v image n extents maps) bs) ≡ cond (among bs b) (Some (map_claim n b)) None
  links_among n extents maps b [] = refl
  links_among n extents maps b (x ∷ bs) = found_by (map_claim n) b x (b == x) (among bs b) _ None refl (links_among n extents maps b bs)

  -- the claim that an inode of the image makes
  abbrev claim_with : ℕ → ℕ → Claim
  claim_with b n = record { ino = n; form = option_and_then (form_in w image b) (inode_said w image n) }

  joined : (n b : ℕ) (i : InodeValue) (c d : Bool) → among (chain_said w image i) b ≡ c → (c ≡ true → d ≡ true → ⊥)
      → cond d (Some (page_claim i.inode.kind n b)) (cond c (Some (map_claim n b)) None) ≡ cond (c || d) (Some (record { ino = n; form = form_in w image b i })) None
  joined n b i true true e apart = absurd (apart refl refl)
  joined n b i true false e apart = ap (λ (t : Bool). Some (record { ino = n; form = cond t (Some (Extents (map_said w image b))) (form_by_kind w image b i.inode.kind) })) (sym e)
  joined n b i false true e apart = ap (λ (t : Bool). Some (record { ino = n; form = cond t (Some (Extents (map_said w image b))) (form_by_kind w image b i.inode.kind) })) (sym e)
  joined n b i false false e apart = refl

  module _ (n : ℕ) (i : InodeValue) (e : inode_said w image n ≡ Some i) (b : ℕ) where
    parts_apart : among (chain_said w image i) b ≡ true → among (blocks_said w image i) b ≡ true → ⊥
    parts_apart x y =
        let few : uses (chain_said w image i ++ blocks_said w image i) b ≤ 1 = subst (λ (o : Option InodeValue). uses (claimed_by w image o) b ≤ 1) e (claimed_few n b) in
        let both = uses_append (chain_said w image i) (blocks_said w image i) b in
        let one_ = among_uses (chain_said w image i) b x in
        let other = among_uses (blocks_said w image i) b y in
        absurd (omega (arith, few, both, one_, other))

    chain_is : chain_at (layout v device_sectors image) n ≡ map (link_with v image n i.extents i.maps) (chain_said w image i)
    chain_is =
        ap₂ (λ (es : List Extent) (ms : List ℕ). chain_of n (drop 6 es) ms) (settled_extents v device_sectors image whole sound n i e) (settled_chain v device_sectors image whole sound n i e)
        ∙ chain_links v image whole sound n i e

    claim_there : claim_among n b (claimed_at (layout v device_sectors image) n) ≡ cond (among (claimed_by w image (Some i)) b) (Some (record { ino = n; form = form_in w image b i })) None
    claim_there =
        ap₂ (λ (o : Option InodeValue) (cs : List Claimed). claim_among n b (map names_claimed (blocks_of v device_sectors image o) ++ (map page_claimed (space_of v device_sectors image o).settled ++ cs))) e chain_is
        ∙ kind_among i.inode.kind i n b (map (link_with v image n i.extents i.maps) (chain_said w image i))
        ∙ ap (λ (o : Option Claim). cond (among (blocks_said w image i) b) (Some (page_claim i.inode.kind n b)) o) (links_among n i.extents i.maps b (chain_said w image i))
        ∙ joined n b i (among (chain_said w image i) b) (among (blocks_said w image i) b) refl parts_apart
        ∙ ap (λ (t : Bool). cond t (Some (record { ino = n; form = form_in w image b i })) None) (sym (among_both (chain_said w image i) (blocks_said w image i) b))

  no_claim : (n b : ℕ) → inode_said w image n ≡ None → claim_among n b (claimed_at (layout v device_sectors image) n) ≡ None
  no_claim n b e =
      ap (λ (o : Option InodeValue). claim_among n b (map names_claimed (blocks_of v device_sectors image o) ++ (map page_claimed (space_of v device_sectors image o).settled ++ chain_at (layout v device_sectors image) n))) e
      ∙ ap (claim_among n b) (ap (chain_of n (drop 6 (stretches (settled_at (layout v device_sectors image) n)))) none_settled)
    where
      take_none : (k : ℕ) → ◌≡◌ {A = List ℕ} (take k []) []
      take_none zero = refl
      take_none (suc k) = refl

      none_settled : settled_maps (layout v device_sectors image) n ≡ []
      none_settled = ap (λ (o : Option InodeValue). take (maps_for (settled_at (layout v device_sectors image) n)) (maps_of v device_sectors image o)) e
          ∙ take_none (maps_for (settled_at (layout v device_sectors image) n))

  claim_by : (n b : ℕ) (o : Option InodeValue) → inode_said w image n ≡ o
      → claim_among n b (claimed_at (layout v device_sectors image) n) ≡ cond (among (claimed_by w image o) b) (Some (record { ino = n; form = option_and_then (form_in w image b) o })) None
  claim_by n b None e = no_claim n b e
  claim_by n b (Some i) e = claim_there n i e b

  or_by : (b n : ℕ) (t : Bool) (o : Option ℕ) → or_claim (cond t (Some (claim_with b n)) None) (option_map (claim_with b) o) ≡ option_map (claim_with b) (cond t (Some n) o)
  or_by b n true o = refl
  or_by b n false o = refl

  below_same : (b n : ℕ) → claim_below (layout v device_sectors image) b n ≡ option_map (claim_with b) (owner_below w image b n)
  unfolding claim_below owner_below
  below_same b zero = refl
  below_same b (suc n) =
      ap₂ or_claim (claim_by n b (inode_said w image n) refl) (below_same b n)
      ∙ or_by b n (among (claims_at n) b) (owner_below w image b n)

  -- the state claims what the image does
  pub claims_same : (b : ℕ) → claim_of (layout v device_sectors image) b ≡ option_map (claim_with b) (owner w image b)
  claims_same b = below_same b (inode_count w)

  owners_by : (b : ℕ) (o : Option ℕ) → option_map (λ (c : Claim). c.ino) (option_map (claim_with b) o) ≡ o
  owners_by b None = refl
  owners_by b (Some n) = refl

  pub owners_same : (b : ℕ) → option_map (λ (c : Claim). c.ino) (claim_of (layout v device_sectors image) b) ≡ owner w image b
  owners_same b = ap (option_map (λ (c : Claim). c.ino)) (claims_same b) ∙ owners_by b (owner w image b)

  forms_by : (b : ℕ) (o : Option ℕ) → option_and_then (λ (c : Claim). c.form) (option_map (claim_with b) o) ≡ option_and_then (λ n. option_and_then (form_in w image b) (inode_said w image n)) o
  forms_by b None = refl
  forms_by b (Some n) = refl

  pub forms_same : (b : ℕ) → option_and_then (λ (c : Claim). c.form) (claim_of (layout v device_sectors image) b) ≡ form_said w image b
  unfolding form_said
  forms_same b = ap (option_and_then (λ (c : Claim). c.form)) (claims_same b) ∙ forms_by b (owner w image b)
