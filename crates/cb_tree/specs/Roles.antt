-- What the kinds of nodes are to the if sections (6.10.1).
use Rattle.std.specs.Prelude.{Bool, true, false}
use Rattle.cb_tree.specs.declared.node.NodeKind.{NodeKind}
use Rattle.cb_tree.specs.declared.node.NodeKind.TheVariants.{Text, If, Ifdef, Ifndef, Elif, Else, Endif}
use Rattle.cb_tree.specs.declared.role.Role.{Role}
use Rattle.cb_tree.specs.declared.role.Role.TheVariants as role

-- a node of this kind opens a section, turns to a further group of one, closes one, or stands within (6.10.1)
abbrev pub role_of : NodeKind → Role
role_of If = role.Opens
role_of Ifdef = role.Opens
role_of Ifndef = role.Opens
role_of Elif = role.Turns
role_of Else = role.Turns
role_of Endif = role.Closes
role_of _ = role.Within

-- it begins the last group of its section, and asks no condition (6.10.1)
abbrev pub is_last : NodeKind → Bool
is_last Else = true
is_last _ = false

-- it is a directive line (6.10 paragraph 2)
abbrev pub is_line : NodeKind → Bool
is_line Text = false
is_line _ = true

-- a node in this role begins a group (6.10.1)
abbrev pub begins_group : Role → Bool
begins_group role.Opens = true
begins_group role.Turns = true
begins_group _ = false

-- a node of this kind begins a group (6.10.1)
abbrev pub opens_group : NodeKind → Bool
opens_group kind = begins_group (role_of kind)
