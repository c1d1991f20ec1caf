use Rattle.std.proofs.Common.{refl}
use Rattle.cb_macro.specs.Definitions.{defines, body_of, object_body, checked, may_stand, without_front_space, begins_with_paste, ends_with_paste, is_called, hashes_name_parameters, all_parameters}
use Rattle.cb_macro.specs.Signs.{is_sign, is_hash, is_paste, is_named, is_macro_name}
use Rattle.cb_pass.proofs.starting.first_macros.Goals as goal

pub define_number-requires : goal.define_number-requires
unfolding defines body_of object_body checked may_stand without_front_space begins_with_paste ends_with_paste is_called hashes_name_parameters all_parameters is_sign is_hash is_paste is_named is_macro_name
define_number-requires c = refl

pub define_number-requires-in-C : goal.define_number-requires-in-C
unfolding defines body_of object_body checked may_stand without_front_space begins_with_paste ends_with_paste is_called hashes_name_parameters all_parameters is_sign is_hash is_paste is_named is_macro_name
define_number-requires-in-C c = refl

pub define_number-requires-in-Cxx : goal.define_number-requires-in-Cxx
unfolding defines body_of object_body checked may_stand without_front_space begins_with_paste ends_with_paste is_called hashes_name_parameters all_parameters is_sign is_hash is_paste is_named is_macro_name
define_number-requires-in-Cxx c = refl
