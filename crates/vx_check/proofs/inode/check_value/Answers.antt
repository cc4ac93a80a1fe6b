use Rattle.std.proofs.Common.{rules, ◌≡◌, ◌++◌, List, true, false, [], sym, ap, subst, ◌∙◌, arith, append_assoc}
use Rattle.std.proofs.lemmas.Grind.{common_steps}
use Rattle.std.specs.Prelude.{IsTrue}
use Rattle.std.specs.List.{flat_map, AllByRecursion}
use Rattle.vx_base.specs.declared.inode.Extent.{Extent}
use Rattle.vx_layout.specs.Places.{is_data}
use Rattle.vx_sound.specs.Said.{in_place, extents_said, extent_blocks, chain_said, blocks_said, claims_below}
use Rattle.vx_check.specs.Chains.{map_extents}
use Rattle.vx_check.specs.Parts.{AreMarksOf}
use Rattle.vx_check.proofs.OneInode.{in_maps, bad_extents, in_file, in_directory, in_dirs, no_targets, directory_are, small_blocks}
use Rattle.vx_check.proofs.Going.{read_on}
use Rattle.vx_check.proofs.Keeping.{directory_contents}
use Rattle.vx_check.proofs.inode.check_value.Goals as goal

pub returns-in-Err-check_maps-clause-finds : goal.returns-in-Err-check_maps-clause-finds
returns-in-Err-check_maps-clause-finds g c = λ strict image known.
    in_maps strict c.args.volume.now image c.args.ino c.args.value.now (c.requires.said image (c.check_maps.ensures.read.seen image known)) c.in-Err-check_maps.stop (c.in-Err-check_maps.ensures.finds strict image known)

pub returns-then-not-check_extents-clause-finds : goal.returns-then-not-check_extents-clause-finds
returns-then-not-check_extents-clause-finds g c = λ strict image known.
    let v = c.args.volume.now in
    let i = c.args.value.now in
    let start : c.new-extents.result.items ≡ [] = c.new-extents.ensures.items in
    let first : c.add_first.new.extents.items ≡ c.new-extents.result.items ++ flat_map in_place i.first = first_of (search rules, grind (arith, common_steps)) in
    let all : c.check_maps.new.extents.items ≡ c.add_first.new.extents.items ++ flat_map (map_extents v image) (chain_said v image i) = c.in-Ok-check_maps.ensures.extents image known in
    let shown : c.deref.result.now ≡ c.check_maps.new.extents.items = first_of (search rules, grind (arith, common_steps)) in
    let said : c.deref.result.now ≡ extents_said v image i = shown ∙ all ∙ ap (λ (l : List Extent). l ++ flat_map (map_extents v image) (chain_said v image i)) (first ∙ ap (λ (l : List Extent). l ++ flat_map in_place i.first) start) in
    let bad : c.check_extents.result ≡ false = first_of (search rules, grind (arith, common_steps)) in
    bad_extents strict v image c.args.ino i (c.requires.said image (c.check_maps.ensures.read.seen image known)) (c.in-Ok-check_maps.ensures.finds strict image known)
    c.get-sector.result (c.get-sector.ensures ∙ c.inode_place.ensures.sector) (c.check_extents.ensures.wrong image said (c.in-Ok-check_maps.ensures.marks image known) bad)

pub returns-in-File-clause-finds : goal.returns-in-File-clause-finds
returns-in-File-clause-finds g c = λ strict image known.
    let v = c.args.volume.now in
    let i = c.args.value.now in
    let start : c.new-extents.result.items ≡ [] = c.new-extents.ensures.items in
    let first : c.add_first.new.extents.items ≡ c.new-extents.result.items ++ flat_map in_place i.first = first_of (search rules, grind (arith, common_steps)) in
    let all : c.check_maps.new.extents.items ≡ c.add_first.new.extents.items ++ flat_map (map_extents v image) (chain_said v image i) = c.in-Ok-check_maps.ensures.extents image known in
    let shown : c.deref.result.now ≡ c.check_maps.new.extents.items = first_of (search rules, grind (arith, common_steps)) in
    let said : c.deref.result.now ≡ extents_said v image i = shown ∙ all ∙ ap (λ (l : List Extent). l ++ flat_map (map_extents v image) (chain_said v image i)) (first ∙ ap (λ (l : List Extent). l ++ flat_map in_place i.first) start) in
    let fine : c.check_extents.result ≡ true = first_of (search rules, grind (arith, common_steps)) in
    let right = c.check_extents.ensures.right image said (c.in-Ok-check_maps.ensures.marks image known) fine in
    in_file strict v image c.args.ino i (c.requires.said image (c.check_maps.ensures.read.seen image known)) (c.in-Ok-check_maps.ensures.finds strict image known) right.0 c.in-File.is

pub returns-in-File-clause-marks : goal.returns-in-File-clause-marks
returns-in-File-clause-marks g c = λ image known.
    let v = c.args.volume.now in
    let i = c.args.value.now in
    let start : c.new-extents.result.items ≡ [] = c.new-extents.ensures.items in
    let first : c.add_first.new.extents.items ≡ c.new-extents.result.items ++ flat_map in_place i.first = first_of (search rules, grind (arith, common_steps)) in
    let all : c.check_maps.new.extents.items ≡ c.add_first.new.extents.items ++ flat_map (map_extents v image) (chain_said v image i) = c.in-Ok-check_maps.ensures.extents image known in
    let shown : c.deref.result.now ≡ c.check_maps.new.extents.items = first_of (search rules, grind (arith, common_steps)) in
    let said : c.deref.result.now ≡ extents_said v image i = shown ∙ all ∙ ap (λ (l : List Extent). l ++ flat_map (map_extents v image) (chain_said v image i)) (first ∙ ap (λ (l : List Extent). l ++ flat_map in_place i.first) start) in
    let fine : c.check_extents.result ≡ true = first_of (search rules, grind (arith, common_steps)) in
    let right = c.check_extents.ensures.right image said (c.in-Ok-check_maps.ensures.marks image known) fine in
    subst (AreMarksOf c.check_extents.new.marks) (append_assoc (claims_below v image c.args.ino) (chain_said v image i) (blocks_said v image i)) right.1

pub returns-in-File-clause-targets : goal.returns-in-File-clause-targets
returns-in-File-clause-targets g c = λ image known.
    c.new.ensures.items ∙ no_targets c.args.volume.now image c.args.ino c.args.value.now (c.requires.said image (c.check_maps.ensures.read.seen image known)) c.in-File.is

pub blocks_of-requires : goal.blocks_of-requires
blocks_of-requires g c =
    let fine : c.check_extents.result ≡ true = first_of (search rules, grind (arith, common_steps)) in
    let same : c.deref.result.now ≡ c.deref-in-Directory.result.now = first_of (search rules, grind (arith, common_steps)) in
    small_blocks c.args.volume.now (flat_map extent_blocks c.deref-in-Directory.result.now) c.requires.readable.block c.requires.readable.fits
    (subst (λ (es : List Extent). AllByRecursion (λ b. IsTrue (is_data c.args.volume.now b)) (flat_map extent_blocks es)) same (c.check_extents.ensures.data fine))

pub check_directory-requires-clause-data : goal.check_directory-requires-clause-data
check_directory-requires-clause-data g c =
    let fine : c.check_extents.result ≡ true = first_of (search rules, grind (arith, common_steps)) in
    let same : c.deref.result.now ≡ c.deref-in-Directory.result.now = first_of (search rules, grind (arith, common_steps)) in
    let made : c.in-Ok-blocks_of.blocks.items ≡ flat_map extent_blocks c.deref-in-Directory.result.now = c.in-Ok-blocks_of.ensures in
    let blocks : flat_map extent_blocks c.deref.result.now ≡ c.deref-in-Directory-2.result.now = ap (flat_map extent_blocks) same ∙ sym made ∙ sym c.deref-in-Directory-2.ensures.value in
    subst (AllByRecursion (λ b. IsTrue (is_data c.args.volume.now b))) blocks (c.check_extents.ensures.data fine)

pub returns-in-Ok-check_directory-clause-finds : goal.returns-in-Ok-check_directory-clause-finds
returns-in-Ok-check_directory-clause-finds g c = λ strict image known.
    let between = c.check_directory.ensures.read.seen image known in
    let v = c.args.volume.now in
    let i = c.args.value.now in
    let start : c.new-extents.result.items ≡ [] = c.new-extents.ensures.items in
    let first : c.add_first.new.extents.items ≡ c.new-extents.result.items ++ flat_map in_place i.first = first_of (search rules, grind (arith, common_steps)) in
    let all : c.check_maps.new.extents.items ≡ c.add_first.new.extents.items ++ flat_map (map_extents v image) (chain_said v image i) = c.in-Ok-check_maps.ensures.extents image between in
    let shown : c.deref.result.now ≡ c.check_maps.new.extents.items = first_of (search rules, grind (arith, common_steps)) in
    let said : c.deref.result.now ≡ extents_said v image i = shown ∙ all ∙ ap (λ (l : List Extent). l ++ flat_map (map_extents v image) (chain_said v image i)) (first ∙ ap (λ (l : List Extent). l ++ flat_map in_place i.first) start) in
    let fine : c.check_extents.result ≡ true = first_of (search rules, grind (arith, common_steps)) in
    let right = c.check_extents.ensures.right image said (c.in-Ok-check_maps.ensures.marks image between) fine in
    let same : c.deref.result.now ≡ c.deref-in-Directory.result.now = first_of (search rules, grind (arith, common_steps)) in
    let made : c.in-Ok-blocks_of.blocks.items ≡ flat_map extent_blocks c.deref-in-Directory.result.now = c.in-Ok-blocks_of.ensures in
    let blocks = c.deref-in-Directory-2.result.now in
    let is : blocks ≡ flat_map extent_blocks c.deref.result.now = c.deref-in-Directory-2.ensures.value ∙ made ∙ sym (ap (flat_map extent_blocks) same) in
    let are = directory_are v image c.args.ino i (c.requires.said image (c.check_maps.ensures.read.seen image between)) c.in-Directory.is c.deref.result.now (ap (flat_map extent_blocks) said) blocks is in
    in_directory strict v image c.args.ino i (c.requires.said image (c.check_maps.ensures.read.seen image between)) (c.in-Ok-check_maps.ensures.finds strict image between) right.0 blocks are (c.in-Ok-check_directory.ensures.finds strict image known)

pub returns-in-Err-check_directory-clause-finds : goal.returns-in-Err-check_directory-clause-finds
returns-in-Err-check_directory-clause-finds g c = λ strict image known.
    let between = c.check_directory.ensures.read.seen image known in
    let v = c.args.volume.now in
    let i = c.args.value.now in
    let start : c.new-extents.result.items ≡ [] = c.new-extents.ensures.items in
    let first : c.add_first.new.extents.items ≡ c.new-extents.result.items ++ flat_map in_place i.first = first_of (search rules, grind (arith, common_steps)) in
    let all : c.check_maps.new.extents.items ≡ c.add_first.new.extents.items ++ flat_map (map_extents v image) (chain_said v image i) = c.in-Ok-check_maps.ensures.extents image between in
    let shown : c.deref.result.now ≡ c.check_maps.new.extents.items = first_of (search rules, grind (arith, common_steps)) in
    let said : c.deref.result.now ≡ extents_said v image i = shown ∙ all ∙ ap (λ (l : List Extent). l ++ flat_map (map_extents v image) (chain_said v image i)) (first ∙ ap (λ (l : List Extent). l ++ flat_map in_place i.first) start) in
    let fine : c.check_extents.result ≡ true = first_of (search rules, grind (arith, common_steps)) in
    let right = c.check_extents.ensures.right image said (c.in-Ok-check_maps.ensures.marks image between) fine in
    let same : c.deref.result.now ≡ c.deref-in-Directory.result.now = first_of (search rules, grind (arith, common_steps)) in
    let made : c.in-Ok-blocks_of.blocks.items ≡ flat_map extent_blocks c.deref-in-Directory.result.now = c.in-Ok-blocks_of.ensures in
    let blocks = c.deref-in-Directory-2.result.now in
    let is : blocks ≡ flat_map extent_blocks c.deref.result.now = c.deref-in-Directory-2.ensures.value ∙ made ∙ sym (ap (flat_map extent_blocks) same) in
    let are = directory_are v image c.args.ino i (c.requires.said image (c.check_maps.ensures.read.seen image between)) c.in-Directory.is c.deref.result.now (ap (flat_map extent_blocks) said) blocks is in
    in_dirs strict v image c.args.ino i (c.requires.said image (c.check_maps.ensures.read.seen image between)) (c.in-Ok-check_maps.ensures.finds strict image between) right.0 blocks are c.in-Err-check_directory.stop (c.in-Err-check_directory.ensures.finds strict image known)

pub returns-in-Ok-check_directory-clause-marks : goal.returns-in-Ok-check_directory-clause-marks
returns-in-Ok-check_directory-clause-marks g c = λ image known.
    let between = c.check_directory.ensures.read.seen image known in
    let v = c.args.volume.now in
    let i = c.args.value.now in
    let start : c.new-extents.result.items ≡ [] = c.new-extents.ensures.items in
    let first : c.add_first.new.extents.items ≡ c.new-extents.result.items ++ flat_map in_place i.first = first_of (search rules, grind (arith, common_steps)) in
    let all : c.check_maps.new.extents.items ≡ c.add_first.new.extents.items ++ flat_map (map_extents v image) (chain_said v image i) = c.in-Ok-check_maps.ensures.extents image between in
    let shown : c.deref.result.now ≡ c.check_maps.new.extents.items = first_of (search rules, grind (arith, common_steps)) in
    let said : c.deref.result.now ≡ extents_said v image i = shown ∙ all ∙ ap (λ (l : List Extent). l ++ flat_map (map_extents v image) (chain_said v image i)) (first ∙ ap (λ (l : List Extent). l ++ flat_map in_place i.first) start) in
    let fine : c.check_extents.result ≡ true = first_of (search rules, grind (arith, common_steps)) in
    let right = c.check_extents.ensures.right image said (c.in-Ok-check_maps.ensures.marks image between) fine in
    subst (AreMarksOf c.check_extents.new.marks) (append_assoc (claims_below v image c.args.ino) (chain_said v image i) (blocks_said v image i)) right.1

pub returns-in-Ok-check_directory-clause-read : goal.returns-in-Ok-check_directory-clause-read
returns-in-Ok-check_directory-clause-read g c = read_on (g.D.Sectors.view c.args.dev.now) (g.D.Sectors.view c.check_maps.new.dev) (g.D.Sectors.view c.check_directory.new.dev) c.check_maps.ensures.read c.check_directory.ensures.read

pub returns-in-Ok-check_directory-clause-contents : goal.returns-in-Ok-check_directory-clause-contents
returns-in-Ok-check_directory-clause-contents g c = λ image known.
    let between = c.check_directory.ensures.read.seen image known in
    let v = c.args.volume.now in
    let i = c.args.value.now in
    let start : c.new-extents.result.items ≡ [] = c.new-extents.ensures.items in
    let first : c.add_first.new.extents.items ≡ c.new-extents.result.items ++ flat_map in_place i.first = first_of (search rules, grind (arith, common_steps)) in
    let all : c.check_maps.new.extents.items ≡ c.add_first.new.extents.items ++ flat_map (map_extents v image) (chain_said v image i) = c.in-Ok-check_maps.ensures.extents image between in
    let shown : c.deref.result.now ≡ c.check_maps.new.extents.items = first_of (search rules, grind (arith, common_steps)) in
    let said : c.deref.result.now ≡ extents_said v image i = shown ∙ all ∙ ap (λ (l : List Extent). l ++ flat_map (map_extents v image) (chain_said v image i)) (first ∙ ap (λ (l : List Extent). l ++ flat_map in_place i.first) start) in
    let same : c.deref.result.now ≡ c.deref-in-Directory.result.now = first_of (search rules, grind (arith, common_steps)) in
    let made : c.in-Ok-blocks_of.blocks.items ≡ flat_map extent_blocks c.deref-in-Directory.result.now = c.in-Ok-blocks_of.ensures in
    let blocks = c.deref-in-Directory-2.result.now in
    let is : blocks ≡ flat_map extent_blocks c.deref.result.now = c.deref-in-Directory-2.ensures.value ∙ made ∙ sym (ap (flat_map extent_blocks) same) in
    let are = directory_are v image c.args.ino i (c.requires.said image (c.check_maps.ensures.read.seen image between)) c.in-Directory.is c.deref.result.now (ap (flat_map extent_blocks) said) blocks is in
    let es_are : c.check_maps.new.extents.items ≡ extents_said v image i = sym shown ∙ said in
    c.new-in-Ok-check_directory.ensures
    ∙ directory_contents v image i c.in-Ok-check_maps.maps.items c.check_maps.new.extents.items c.in-Ok-check_directory.listing.blocks.items (c.in-Ok-check_maps.ensures.maps image between) es_are
    c.args.ino (c.requires.said image (c.check_maps.ensures.read.seen image between)) blocks are (c.in-Ok-check_directory.ensures.blocks image known)
