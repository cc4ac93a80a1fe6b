use Rattle.vx_layout.proofs.Standing.{place_bits, place_slots, place_inode, place_part, data_in_unit, place_is, distinct, inside_units}
use Rattle.vx_layout.proofs.volume.places.Goals as goal

pub returns-clause-bits : goal.returns-clause-bits
returns-clause-bits c = place_bits

pub returns-clause-slots : goal.returns-clause-slots
returns-clause-slots c = place_slots

pub returns-clause-inodes : goal.returns-clause-inodes
returns-clause-inodes c = place_inode

pub returns-clause-parts : goal.returns-clause-parts
returns-clause-parts c = place_part

pub returns-clause-data_blocks : goal.returns-clause-data_blocks
returns-clause-data_blocks c = data_in_unit

pub returns-clause-named : goal.returns-clause-named
returns-clause-named c = place_is

pub returns-clause-distinct : goal.returns-clause-distinct
returns-clause-distinct c = distinct

pub returns-clause-inside : goal.returns-clause-inside
returns-clause-inside c = inside_units
