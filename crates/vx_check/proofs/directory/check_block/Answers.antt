use Rattle.std.proofs.Common.{rules, ◌≡◌, ◌++◌, [], ℕ, List, Bool, true, false, length, sym, ap, subst, ◌∙◌, inl, inr, arith}
use Rattle.std.proofs.lemmas.Grind.{common_steps}
use Rattle.vx_base.specs.declared.inode.DirEntry.{DirEntry}
use Rattle.vx_layout.specs.Dirs.{IsDir, dir_bytes, dir_at}
use Rattle.vx_sound.specs.Said.{block_bytes, entries_said, entries_below}
use Rattle.std.specs.Prelude.{Option, Ok}
use Rattle.std.specs.Option.{unwrap_or}
use Rattle.std.specs.List.{AllByRecursion}
use Rattle.vx_sound.specs.Facts.{AreNamesRight}
use Rattle.vx_check.proofs.Marks.{data_below}
use Rattle.vx_check.specs.Directories.{AreNamesOf, AreBelow, IsMarked, targets_of}
use Rattle.vx_check.proofs.Directories.{bad_entries, bad_targets, good_block, below_both}
use Rattle.vx_check.proofs.directory.check_block.Goals as goal

pub block_sector-requires-clause-there : goal.block_sector-requires-clause-there
block_sector-requires-clause-there g c = data_below c.args.volume.now c.args.b c.requires.data

pub read_block-requires-clause-there : goal.read_block-requires-clause-there
read_block-requires-clause-there g c = data_below c.args.volume.now c.args.b c.requires.data

pub returns-then-not-are_used-clause-finds : goal.returns-then-not-are_used-clause-finds
returns-then-not-are_used-clause-finds g c = λ strict image known.
    let v = c.args.volume.now in
    let es : List DirEntry = c.in-Ok-read_dir.value in
    let block = c.requires.readable.block in
    let is : IsDir v.block es = subst (λ (s : ℕ). IsDir s es) (sym block) c.in-Ok-read_dir.ensures.found.0 in
    let bytes = c.in-Ok.ensures.bytes image known in
    let spelled : block_bytes v image c.args.b ≡ dir_bytes v.block es = sym bytes ∙ c.in-Ok-read_dir.ensures.found.1 ∙ ap (λ (s : ℕ). dir_bytes s es) (sym block) in
    let said : entries_said v image c.args.b ≡ es = ap (λ (o : Option (List DirEntry)). unwrap_or o []) (ap dir_at spelled ∙ c.dir_spelling.ensures.again v.block es is) in
    let is_true : c.in-Ok-true.field-0 ≡ true = first_of (search rules, grind (arith, common_steps)) in
    let same : c.as_slice.result.now ≡ es = first_of (search rules, grind (arith, common_steps)) in
    let names = subst (λ (l : List DirEntry). AreNamesRight (entries_below v image c.args.ino c.args.k) l × AreNamesOf c.check_names.new.names (entries_below v image c.args.ino c.args.k ++ l)) same
    (c.in-Ok-true.ensures.right (entries_below v image c.args.ino c.args.k) (c.requires.names image (c.read_block.ensures.read.seen image known)) (ap (λ (b : Bool). Ok b) is_true)) in
    let same_too : c.as_slice-in-Ok-true.result.now ≡ es = first_of (search rules, grind (arith, common_steps)) in
    let unused : c.are_used.result ≡ false = first_of (search rules, grind (arith, common_steps)) in
    bad_targets strict v image c.args.ino c.args.k c.args.b (c.requires.at image (c.read_block.ensures.read.seen image known)) c.args.used.now (c.requires.used image (c.read_block.ensures.read.seen image known)) es is spelled (c.in-Ok.ensures.whole image known) said names.0
    c.get-inode_sector.result (c.get-inode_sector.ensures ∙ c.inode_place.ensures.sector) (subst (λ (l : List DirEntry). AllByRecursion (IsMarked c.args.used.now) l → ⊥) same_too (c.are_used.ensures.wrong unused))

pub returns-in-Ok-add_targets-clause-finds : goal.returns-in-Ok-add_targets-clause-finds
returns-in-Ok-add_targets-clause-finds g c = λ strict image known.
    let v = c.args.volume.now in
    let es : List DirEntry = c.in-Ok-read_dir.value in
    let block = c.requires.readable.block in
    let is : IsDir v.block es = subst (λ (s : ℕ). IsDir s es) (sym block) c.in-Ok-read_dir.ensures.found.0 in
    let bytes = c.in-Ok.ensures.bytes image known in
    let spelled : block_bytes v image c.args.b ≡ dir_bytes v.block es = sym bytes ∙ c.in-Ok-read_dir.ensures.found.1 ∙ ap (λ (s : ℕ). dir_bytes s es) (sym block) in
    let said : entries_said v image c.args.b ≡ es = ap (λ (o : Option (List DirEntry)). unwrap_or o []) (ap dir_at spelled ∙ c.dir_spelling.ensures.again v.block es is) in
    let is_true : c.in-Ok-true.field-0 ≡ true = first_of (search rules, grind (arith, common_steps)) in
    let same : c.as_slice.result.now ≡ es = first_of (search rules, grind (arith, common_steps)) in
    let names = subst (λ (l : List DirEntry). AreNamesRight (entries_below v image c.args.ino c.args.k) l × AreNamesOf c.check_names.new.names (entries_below v image c.args.ino c.args.k ++ l)) same
    (c.in-Ok-true.ensures.right (entries_below v image c.args.ino c.args.k) (c.requires.names image (c.read_block.ensures.read.seen image known)) (ap (λ (b : Bool). Ok b) is_true)) in
    let same_too : c.as_slice-in-Ok-true.result.now ≡ es = first_of (search rules, grind (arith, common_steps)) in
    let in_use : c.are_used.result ≡ true = first_of (search rules, grind (arith, common_steps)) in
    good_block strict v image c.args.ino c.args.k c.args.b (c.requires.at image (c.read_block.ensures.read.seen image known)) c.args.used.now (c.requires.used image (c.read_block.ensures.read.seen image known)) es is spelled (c.in-Ok.ensures.whole image known) said names.0
    (subst (AllByRecursion (IsMarked c.args.used.now)) same_too (c.are_used.ensures.right in_use))

pub returns-in-Ok-add_targets-clause-names : goal.returns-in-Ok-add_targets-clause-names
returns-in-Ok-add_targets-clause-names g c = λ image known.
    let v = c.args.volume.now in
    let es : List DirEntry = c.in-Ok-read_dir.value in
    let block = c.requires.readable.block in
    let is : IsDir v.block es = subst (λ (s : ℕ). IsDir s es) (sym block) c.in-Ok-read_dir.ensures.found.0 in
    let bytes = c.in-Ok.ensures.bytes image known in
    let spelled : block_bytes v image c.args.b ≡ dir_bytes v.block es = sym bytes ∙ c.in-Ok-read_dir.ensures.found.1 ∙ ap (λ (s : ℕ). dir_bytes s es) (sym block) in
    let said : entries_said v image c.args.b ≡ es = ap (λ (o : Option (List DirEntry)). unwrap_or o []) (ap dir_at spelled ∙ c.dir_spelling.ensures.again v.block es is) in
    let is_true : c.in-Ok-true.field-0 ≡ true = first_of (search rules, grind (arith, common_steps)) in
    let same : c.as_slice.result.now ≡ es = first_of (search rules, grind (arith, common_steps)) in
    let names = subst (λ (l : List DirEntry). AreNamesRight (entries_below v image c.args.ino c.args.k) l × AreNamesOf c.check_names.new.names (entries_below v image c.args.ino c.args.k ++ l)) same
    (c.in-Ok-true.ensures.right (entries_below v image c.args.ino c.args.k) (c.requires.names image (c.read_block.ensures.read.seen image known)) (ap (λ (b : Bool). Ok b) is_true)) in
    subst (λ (l : List DirEntry). AreNamesOf c.check_names.new.names (entries_below v image c.args.ino c.args.k ++ l)) (sym said) names.1

pub returns-in-Ok-false-clause-finds : goal.returns-in-Ok-false-clause-finds
returns-in-Ok-false-clause-finds g c = λ strict image known.
    let v = c.args.volume.now in
    let es : List DirEntry = c.in-Ok-read_dir.value in
    let block = c.requires.readable.block in
    let is : IsDir v.block es = subst (λ (s : ℕ). IsDir s es) (sym block) c.in-Ok-read_dir.ensures.found.0 in
    let bytes = c.in-Ok.ensures.bytes image known in
    let spelled : block_bytes v image c.args.b ≡ dir_bytes v.block es = sym bytes ∙ c.in-Ok-read_dir.ensures.found.1 ∙ ap (λ (s : ℕ). dir_bytes s es) (sym block) in
    let shown : c.as_slice.result.now ≡ es = first_of (search rules, grind (arith, common_steps)) in
    let is_false : c.in-Ok-false.field-0 ≡ false = first_of (search rules, grind (arith, common_steps)) in
    bad_entries strict v image c.args.ino c.args.k c.args.b (c.requires.at image (c.read_block.ensures.read.seen image known)) c.get-sector.result (c.get-sector.ensures ∙ c.block_sector.ensures)
    (λ other is_other text names.
    let same : c.as_slice.result.now ≡ other = shown ∙ c.dir_spelling.ensures.unique v.block es other is is_other (sym spelled ∙ text) in
    c.in-Ok-false.ensures.wrong (entries_below v image c.args.ino c.args.k) (c.requires.names image (c.read_block.ensures.read.seen image known)) (ap (λ (b : Bool). Ok b) is_false)
    (subst (λ (l : List DirEntry). AreNamesRight (entries_below v image c.args.ino c.args.k) l) (sym same) names))

pub returns-in-Err-Bad-clause-finds : goal.returns-in-Err-Bad-clause-finds
returns-in-Err-Bad-clause-finds g c = λ strict image known.
    let v = c.args.volume.now in
    let block = c.requires.readable.block in
    bad_entries strict v image c.args.ino c.args.k c.args.b (c.requires.at image (c.read_block.ensures.read.seen image known)) c.get-sector.result (c.get-sector.ensures ∙ c.block_sector.ensures)
    (λ es is text names.
    let low : IsDir 1024 es = subst (λ (s : ℕ). IsDir s es) block is in
    let bytes = c.in-Ok.ensures.bytes image known ∙ text ∙ ap (λ (s : ℕ). dir_bytes s es) block in
    elim (c.read_dir.ensures.only es low bytes) [ inl e ↦ absurd (cc) | inr e ↦ absurd (cc) ])

pub returns-in-Ok-add_targets-clause-inside : goal.returns-in-Ok-add_targets-clause-inside
returns-in-Ok-add_targets-clause-inside g c = λ below.
    let es : List DirEntry = c.in-Ok-read_dir.value in
    let same_too : c.as_slice-in-Ok-true.result.now ≡ es = first_of (search rules, grind (arith, common_steps)) in
    let same_more : c.as_slice-in-Ok-true-2.result.now ≡ es = first_of (search rules, grind (arith, common_steps)) in
    let in_use : c.are_used.result ≡ true = first_of (search rules, grind (arith, common_steps)) in
    let new : c.add_targets.new.targets.items ≡ c.args.targets.now.items ++ targets_of es = c.in-Ok-add_targets.ensures ∙ ap (λ (l : List DirEntry). c.args.targets.now.items ++ targets_of l) same_more in
    subst (AreBelow (length c.args.used.now)) (sym new) (below_both c.args.used.now c.args.targets.now.items es below (subst (AllByRecursion (IsMarked c.args.used.now)) same_too (c.are_used.ensures.right in_use)))

pub returns-in-Ok-add_targets-clause-entries : goal.returns-in-Ok-add_targets-clause-entries
returns-in-Ok-add_targets-clause-entries g c = λ image known.
    let v = c.args.volume.now in
    let es : List DirEntry = c.in-Ok-read_dir.value in
    let block = c.requires.readable.block in
    let is : IsDir v.block es = subst (λ (s : ℕ). IsDir s es) (sym block) c.in-Ok-read_dir.ensures.found.0 in
    let bytes = c.in-Ok.ensures.bytes image known in
    let spelled : block_bytes v image c.args.b ≡ dir_bytes v.block es = sym bytes ∙ c.in-Ok-read_dir.ensures.found.1 ∙ ap (λ (s : ℕ). dir_bytes s es) (sym block) in
    ap (λ (o : Option (List DirEntry)). unwrap_or o []) (ap dir_at spelled ∙ c.dir_spelling.ensures.again v.block es is)
