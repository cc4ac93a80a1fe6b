-- A block that holds no metadata has no sector that does.
use Rattle.std.proofs.Common.{◌≡◌, ℕ, zero, suc, ◌+◌, ◌*◌, ◌<◌, Bool, true, false, cond, List, [], ◌∷◌, ◌++◌, map, take, drop, Option, Some, None, refl, sym, ap, ◌∙◌, inl, inr, lit<}
use Rattle.std.specs.Prelude.{◌⊎◌, ◌||◌, ◌==◌, is_some}
use Rattle.std.specs.Option.{option_map, option_and_then}
use Rattle.vx_layout.specs.Places.{Volume, block_sector, sector_part}
use Rattle.vx_extents.specs.Extents.{Mapped, stretches}
use Rattle.vx_sound.specs.Reading.{Form, form_bytes}
use Rattle.vx_space.specs.Space.{maps_for}
use Rattle.vx_model.specs.Layout.{Layout, Claim, Claimed, volume, blocks_at, space_at, maps_at, block_numbers, settled_at, settled_maps, chain_at, names_claimed, page_claimed, claimed_at, claim_among, or_claim, claim_below, claim_of}
use Rattle.vx_model.specs.State.{State}
use Rattle.vx_model.specs.Images.{among, is_metadata}
use Rattle.vx_model.specs.Contents.{parsed_of}
use Rattle.vx_model.specs.LaidOut.{HoldsData, named}
use Rattle.vx_model.proofs.Batches.{part_content}
use Rattle.vx_model.proofs.Claims.{claimed_blocks, claimed, chain_blocks, name_blocks}
use Rattle.vx_model.proofs.Numbers.{in_left, in_right}

-- ---- where a claim stands

either_by : (n b : ℕ) (c x : Claim) (xs ys : List Claimed) (t : Bool) → (claim_among n b (xs ++ ys) ≡ Some c → (claim_among n b xs ≡ Some c) ⊎ (claim_among n b ys ≡ Some c))
    → cond t (Some x) (claim_among n b (xs ++ ys)) ≡ Some c → (cond t (Some x) (claim_among n b xs) ≡ Some c) ⊎ (claim_among n b ys ≡ Some c)
either_by n b c x xs ys true rest h = inl h
either_by n b c x xs ys false rest h = rest h

either_claim : (n b : ℕ) (c : Claim) (xs ys : List Claimed) → claim_among n b (xs ++ ys) ≡ Some c → (claim_among n b xs ≡ Some c) ⊎ (claim_among n b ys ≡ Some c)
either_claim n b c [] ys h = inr h
either_claim n b c (x ∷ xs) ys h = either_by n b c (record { ino = n; form = x.form }) xs ys (b == x.block) (either_claim n b c xs ys) h

page_by : (n b : ℕ) (c : Claim) (ms : List Mapped) (t : Bool) → (claim_among n b (map page_claimed ms) ≡ Some c → c.form ≡ None)
    → cond t (Some (record { ino = n; form = None })) (claim_among n b (map page_claimed ms)) ≡ Some c → c.form ≡ None
page_by n b c ms true rest h = let e : record { ino = n; form = None } ≡ c = cc in sym (ap (λ (x : Claim). x.form) e)
page_by n b c ms false rest h = rest h

-- a file's page has no form
page_claims : (n b : ℕ) (c : Claim) (ms : List Mapped) → claim_among n b (map page_claimed ms) ≡ Some c → c.form ≡ None
page_claims n b c [] h = absurd cc
page_claims n b c (m ∷ ms) h = page_by n b c ms (b == m.block) (page_claims n b c ms) h

there : (n b : ℕ) (c : Claim) (cs : List Claimed) → claim_among n b cs ≡ Some c → among (claimed_blocks cs) b ≡ true
there n b c cs h = sym (claimed n b cs) ∙ ap (λ (o : Option Claim). is_some o) h

taken_by : (b : ℕ) (some all : List ℕ) (t : Bool) → (among some b ≡ true → among all b ≡ true) → (t || among some b) ≡ true → (t || among all b) ≡ true
taken_by b some all true rest h = refl
taken_by b some all false rest h = rest h

-- a number of the first so many is one of all
taken : (k b : ℕ) (xs : List ℕ) → among (take k xs) b ≡ true → among xs b ≡ true
taken zero b xs h = absurd cc
taken (suc k) b [] h = absurd cc
taken (suc k) b (x ∷ xs) h = taken_by b (take k xs) xs (b == x) (taken k b xs) h

not_none : (o : Option Form) (x : Form) → o ≡ None → o ≡ Some x → ⊥
not_none o x none some = let e : None ≡ Some x = sym none ∙ some in absurd cc

formed_chain : (l : Layout) (n b : ℕ) (c : Claim) → claim_among n b (chain_at l n) ≡ Some c → among (named l n) b ≡ true
formed_chain l n b c h =
    in_right (block_numbers (blocks_at l n)) (maps_at l n) b
    (taken (maps_for (settled_at l n)) b (maps_at l n) (sym (ap (λ bs. among bs b) (chain_blocks n (drop 6 (stretches (settled_at l n))) (settled_maps l n))) ∙ there n b c (chain_at l n) h))

formed_names : (l : Layout) (n b : ℕ) (c : Claim) → claim_among n b (map names_claimed (blocks_at l n)) ≡ Some c → among (named l n) b ≡ true
formed_names l n b c h =
    in_left (block_numbers (blocks_at l n)) (maps_at l n) b (sym (ap (λ bs. among bs b) (name_blocks (blocks_at l n))) ∙ there n b c (map names_claimed (blocks_at l n)) h)

formed_rest : (l : Layout) (n b : ℕ) (c : Claim) (x : Form) → c.form ≡ Some x
    → (claim_among n b (map page_claimed (space_at l n).settled) ≡ Some c) ⊎ (claim_among n b (chain_at l n) ≡ Some c) → among (named l n) b ≡ true
formed_rest l n b c x form (inl page) = absurd (not_none c.form x (page_claims n b c (space_at l n).settled page) form)
formed_rest l n b c x form (inr chain) = formed_chain l n b c chain

formed_by : (l : Layout) (n b : ℕ) (c : Claim) (x : Form) → c.form ≡ Some x
    → (claim_among n b (map names_claimed (blocks_at l n)) ≡ Some c) ⊎ (claim_among n b (map page_claimed (space_at l n).settled ++ chain_at l n) ≡ Some c) → among (named l n) b ≡ true
formed_by l n b c x form (inl names) = formed_names l n b c names
formed_by l n b c x form (inr rest) = formed_rest l n b c x form (either_claim n b c (map page_claimed (space_at l n).settled) (chain_at l n) rest)

-- a block with a form is one of its inode's metadata
formed : (l : Layout) (n b : ℕ) (c : Claim) (x : Form) → claim_among n b (claimed_at l n) ≡ Some c → c.form ≡ Some x → among (named l n) b ≡ true
formed l n b c x h form = formed_by l n b c x form (either_claim n b c (map names_claimed (blocks_at l n)) (map page_claimed (space_at l n).settled ++ chain_at l n) h)

-- ---- the claim among all inodes

abbrev Claims : Layout → ℕ → Claim → Type 0
Claims l b c = (n : ℕ) × (claim_among n b (claimed_at l n) ≡ Some c)

claims_by : (l : Layout) (b n : ℕ) (c : Claim) (o rest : Option Claim) → claim_among n b (claimed_at l n) ≡ o → (rest ≡ Some c → Claims l b c) → or_claim o rest ≡ Some c → Claims l b c
claims_by l b n c None rest is below h = below h
claims_by l b n c (Some x) rest is below h = (n, is ∙ h)

claims_below : (l : Layout) (b : ℕ) (c : Claim) (m : ℕ) → claim_below l b m ≡ Some c → Claims l b c
unfolding claim_below
claims_below l b c zero h = absurd cc
claims_below l b c (suc n) h = claims_by l b n c (claim_among n b (claimed_at l n)) (claim_below l b n) refl (claims_below l b c n) h

-- ---- a block that holds no metadata

form_by : (l : Layout) (b : ℕ) (c : Claim) (o : Option Form) → c.form ≡ o → Claims l b c → is_some o ≡ true → (n : ℕ) × (among (named l n) b ≡ true)
form_by l b c None form claims h = absurd cc
form_by l b c (Some x) form claims h = (claims.0, formed l claims.0 b c x claims.1 form)

named_by : (l : Layout) (b : ℕ) (o : Option Claim) → claim_of l b ≡ o → is_some (option_and_then (λ (c : Claim). c.form) o) ≡ true → (n : ℕ) × (among (named l n) b ≡ true)
named_by l b None is h = absurd cc
named_by l b (Some c) is h = form_by l b c c.form refl (claims_below l b c (128 * l.units) is) h

-- a block with a form is one of the metadata of some inode
pub formed_named : (s : State) (b : ℕ) → is_some ((parsed_of s).forms b) ≡ true → (n : ℕ) × (among (named s.layout n) b ≡ true)
formed_named s b h = named_by s.layout b (claim_of s.layout b) refl h

no_form : (s : State) (b : ℕ) (o : Option Form) → (parsed_of s).forms b ≡ o → ((n : ℕ) → among (named s.layout n) b ≡ false) → o ≡ None
no_form s b None is free = refl
no_form s b (Some x) is free =
    let there = formed_named s b (ap (λ (o : Option Form). is_some o) is) in
    let no : true ≡ false = sym there.1 ∙ free there.0 in
    absurd cc

pub data_apart : (s : State) (b j : ℕ) → HoldsData s.layout b → j < 2 → is_metadata (volume s.layout) (parsed_of s) (block_sector 2 b + j) ≡ false
data_apart s b j holds lt =
    let v : Volume = volume s.layout in
    let none : (parsed_of s).forms b ≡ None = no_form s b ((parsed_of s).forms b) refl holds.unnamed in
    let said = part_content v (parsed_of s) b j (record { some = lit< tt; even = refl }) holds.data_block lt in
    ap (λ (o : Option (List ℕ)). is_some o) said ∙ ap (λ (o : Option Form). is_some (option_map (λ x. sector_part j (form_bytes v.block x)) o)) none
