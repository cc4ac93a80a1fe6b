-- An image that holds what is said says it.
use Rattle.std.proofs.Common.{◌≡◌, ℕ, zero, suc, ◌+◌, ◌*◌, ◌/◌, ◌%◌, ◌<◌, ◌≤◌, Bool, true, false, cond, List, [], ◌∷◌, ◌++◌, length, take, drop, refl, sym, ap, ap₂, subst, ◌∙◌, inl, inr, arith, rules}
use Rattle.std.specs.Prelude.{Option, Some, None, IfSome, IsTrue, nat_lt}
use Rattle.std.specs.Option.{option_map, option_and_then, unwrap_or}
use Rattle.std.specs.List.{flat_map}
use Rattle.std.proofs.lemmas.Bool.{cases_lt}
use Rattle.std.proofs.lemmas.List.{take_at, drop_at, take_all, drop-drop}
use Rattle.std.proofs.lemmas.Nat.{div-add-mod', mod_below}
use Rattle.vx_base.specs.declared.inode.InodeValue.{InodeValue}
use Rattle.vx_base.specs.declared.inode.DirEntry.{DirEntry}
use Rattle.vx_layout.specs.Places.{Volume, Place, per_block, is_data, inode_sector, block_sector, sector_part}
use Rattle.vx_layout.specs.Inodes.{layout1, slot_bytes, slot_at, half_of, IsInode, IsSlot}
use Rattle.vx_layout.specs.Maps.{MapBlock, map_block_at}
use Rattle.vx_layout.specs.Dirs.{dir_at}
use Rattle.vx_sound.specs.FirstFault.{numbers}
use Rattle.vx_sound.specs.Said.{Image, inode_count, block_bytes, inode_bytes_at, inode_said, map_said, entries_said}
use Rattle.vx_sound.specs.Reading.{Form, Entries, Extents, Parsed, form_bytes, content, Stands, IsForm, IsSpelled}
use Rattle.vx_sound.proofs.Volumes.{Places}

take_none : (b : ℕ) → ◌≡◌ {A = List ℕ} (take b []) []
take_none zero = refl
take_none (suc b) = refl

take_both : (a b : ℕ) (zs : List ℕ) → take a zs ++ take b (drop a zs) ≡ take (a + b) zs
take_both zero b zs = let e : b ≡ 0 + b = omega arith in ap (λ (k : ℕ). take k zs) e
take_both (suc a) b [] = take_none b ∙ sym (take_none (suc a + b))
take_both (suc a) b (z ∷ zs) =
    let e : suc a + b ≡ suc (a + b) = omega arith in
    ap (λ (xs : List ℕ). z ∷ xs) (take_both a b zs) ∙ ap (λ (k : ℕ). take k (z ∷ zs)) (sym e)

-- what a list of parts holds, one behind another
parts_join : (xs : List ℕ) (a n : ℕ) → flat_map (λ i. take 512 (drop (512 * i) xs)) (numbers a n) ≡ take (512 * n) (drop (512 * a) xs)
parts_join xs a zero = refl
parts_join xs a (suc n) =
    let e : 512 * suc a ≡ 512 * a + 512 = omega arith in
    let f : 512 * suc n ≡ 512 + 512 * n = omega arith in
    let ys = drop (512 * a) xs in
    ap (λ (zs : List ℕ). take 512 ys ++ zs) (parts_join xs (suc a) n ∙ ap (λ (k : ℕ). take (512 * n) (drop k xs)) e ∙ ap (take (512 * n)) (sym (drop-drop 512 (512 * a) xs)))
    ∙ take_both 512 (512 * n) ys ∙ ap (λ (k : ℕ). take k ys) (sym f)

module _ (v : Volume) (p : Parsed) (image : Image) (law : Places v) (is : IsSpelled v p) (stands : Stands v p image) where
  slot_is : (n : ℕ) → (o : Option InodeValue) → p.inodes n ≡ o → IsSlot layout1 o
  slot_is n None e = tt
  slot_is n (Some i) e = (subst (λ (x : Option InodeValue). IfSome x (λ j. IsInode layout1 j × (n < inode_count v))) e (is.inodes n)).0

  absent : (n : ℕ) (o : Option InodeValue) → p.inodes n ≡ o → inode_count v ≤ n → None ≡ o
  absent n None e past = refl
  absent n (Some i) e past =
      let low = (subst (λ (x : Option InodeValue). IfSome x (λ j. IsInode layout1 j × (n < inode_count v))) e (is.inodes n)).1 in
      absurd (omega arith)

  pair_is : (n : ℕ) → n < inode_count v → image (inode_sector v n) ≡ slot_bytes (p.inodes (2 * (n / 2))) ++ slot_bytes (p.inodes (2 * (n / 2) + 1))
  pair_is n less = subst (λ (q : Place). IfSome (content v p q) (λ bytes. image (inode_sector v n) ≡ bytes)) (law.inode_place n less) (stands (inode_sector v n))

  half_is : (n r : ℕ) → n < inode_count v → n % 2 ≡ r → r < 2 → half_of (image (inode_sector v n)) r ≡ slot_bytes (p.inodes (2 * (n / 2) + r))
  half_is n zero less e low =
      let long = law.slot_length (p.inodes (2 * (n / 2))) (slot_is (2 * (n / 2)) (p.inodes (2 * (n / 2))) refl) in
      let f : 2 * (n / 2) ≡ 2 * (n / 2) + 0 = omega arith in
      ap (λ (xs : List ℕ). take 256 xs) (pair_is n less) ∙ take_at (slot_bytes (p.inodes (2 * (n / 2)))) _ 256 long ∙ ap (λ (k : ℕ). slot_bytes (p.inodes k)) f
  half_is n (suc zero) less e low =
      let long = law.slot_length (p.inodes (2 * (n / 2))) (slot_is (2 * (n / 2)) (p.inodes (2 * (n / 2))) refl) in
      let second = law.slot_length (p.inodes (2 * (n / 2) + 1)) (slot_is (2 * (n / 2) + 1) (p.inodes (2 * (n / 2) + 1)) refl) in
      let few : length (slot_bytes (p.inodes (2 * (n / 2) + 1))) ≤ 256 = omega arith in
      ap (λ (xs : List ℕ). take 256 (drop 256 xs)) (pair_is n less) ∙ ap (take 256) (drop_at (slot_bytes (p.inodes (2 * (n / 2)))) _ 256 long)
      ∙ take_all 256 (slot_bytes (p.inodes (2 * (n / 2) + 1))) few
  half_is n (suc (suc r)) less e low = absurd (omega arith)

  present : (n : ℕ) → n < inode_count v → inode_said v image n ≡ p.inodes n
  unfolding inode_said
  present n less =
      let inside : nat_lt n (inode_count v) ≡ true = search rules in
      let low : n % 2 < 2 = mod_below n 2 (omega arith) in
      let whole : 2 * (n / 2) + n % 2 ≡ n = (let e = div-add-mod' n 2 in omega arith) in
      let bytes : inode_bytes_at v image n ≡ slot_bytes (p.inodes n) = half_is n (n % 2) less refl low ∙ ap (λ (k : ℕ). slot_bytes (p.inodes k)) whole in
      ap (λ (t : Bool). cond t (option_and_then (λ (o : Option InodeValue). o) (slot_at layout1 (inode_bytes_at v image n))) None) inside
      ∙ ap (option_and_then (λ (o : Option InodeValue). o)) (ap (slot_at layout1) bytes ∙ law.again.slots_again (p.inodes n) (slot_is n (p.inodes n) refl))

  past_units : (n : ℕ) → inode_count v ≤ n → inode_said v image n ≡ p.inodes n
  unfolding inode_said
  past_units n past =
      let outside : nat_lt n (inode_count v) ≡ false = search rules in
      ap (λ (t : Bool). cond t (option_and_then (λ (o : Option InodeValue). o) (slot_at layout1 (inode_bytes_at v image n))) None) outside
      ∙ absent n (p.inodes n) refl past

  pub inodes : (n : ℕ) → inode_said v image n ≡ p.inodes n
  inodes n = elim (cases_lt n (inode_count v)) [ inl less ↦ present n less | inr past ↦ past_units n past ]

  part_is : (b i : ℕ) (x : Form) → p.forms b ≡ Some x → IsTrue (is_data v b) → i < per_block v → image (block_sector (per_block v) b + i) ≡ take 512 (drop (512 * i) (form_bytes v.block x))
  unfolding sector_part
  part_is b i x e d less =
      let there = subst (λ (q : Place). IfSome (content v p q) (λ bytes. image (block_sector (per_block v) b + i) ≡ bytes)) (law.part_place b i d less) (stands (block_sector (per_block v) b + i)) in
      subst (λ (o : Option Form). IfSome (option_map (λ (y : Form). sector_part i (form_bytes v.block y)) o) (λ bytes. image (block_sector (per_block v) b + i) ≡ bytes)) e there

  -- two lists of pieces, piece by piece
  pieces : (f g : ℕ → List ℕ) (a n m : ℕ) → a + n ≡ m → ((i : ℕ) → i < m → f i ≡ g i) → flat_map f (numbers a n) ≡ flat_map g (numbers a n)
  pieces f g a zero m e same = refl
  pieces f g a (suc n) m e same = ap₂ (λ (xs ys : List ℕ). xs ++ ys) (same a (omega arith)) (pieces f g (suc a) n m (omega arith) same)

  block_is : (b : ℕ) (x : Form) → p.forms b ≡ Some x → IsForm v.block x → IsTrue (is_data v b) → block_bytes v image b ≡ form_bytes v.block x
  block_is b x e form d =
      let long = law.form_length x form in
      let few : length (form_bytes v.block x) ≤ 512 * per_block v = omega arith in
      pieces (λ i. image (block_sector (per_block v) b + i)) (λ i. take 512 (drop (512 * i) (form_bytes v.block x))) 0 (per_block v) (per_block v) (omega arith) (λ i less. part_is b i x e d less)
      ∙ parts_join (form_bytes v.block x) 0 (per_block v) ∙ take_all (512 * per_block v) (form_bytes v.block x) few

  known : (b : ℕ) (x : Form) → p.forms b ≡ Some x → block_bytes v image b ≡ form_bytes v.block x
  known b x e =
      let f = subst (λ (o : Option Form). IfSome o (λ y. IsForm v.block y × IsTrue (is_data v b))) e (is.forms b) in
      block_is b x e f.0 f.1

  blocks_of : (b : ℕ) (o : Option Form) → p.forms b ≡ o → IfSome o (λ x. block_bytes v image b ≡ form_bytes v.block x)
  blocks_of b None e = tt
  blocks_of b (Some x) e = known b x e

  pub blocks : (b : ℕ) → IfSome (p.forms b) (λ x. block_bytes v image b ≡ form_bytes v.block x)
  blocks b = blocks_of b (p.forms b) refl

  pub entries : (b : ℕ) (es : List DirEntry) → p.forms b ≡ Some (Entries es) → entries_said v image b ≡ es
  entries b es e =
      let f = subst (λ (o : Option Form). IfSome o (λ y. IsForm v.block y × IsTrue (is_data v b))) e (is.forms b) in
      ap (λ (o : Option (List DirEntry)). unwrap_or o []) (ap dir_at (known b (Entries es) e) ∙ law.again.dirs_again es f.0)

  pub maps : (b : ℕ) (m : MapBlock) → p.forms b ≡ Some (Extents m) → map_said v image b ≡ m
  maps b m e =
      let f = subst (λ (o : Option Form). IfSome o (λ y. IsForm v.block y × IsTrue (is_data v b))) e (is.forms b) in
      ap map_block_at (known b (Extents m) e) ∙ law.again.maps_again m f.0
