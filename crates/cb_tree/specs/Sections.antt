-- If sections, by one pass over the nodes with the sections that are open (6.10.1).
use Rattle.std.specs.Prelude.{ℕ, ◌==◌, Bool, true, false, if◌then◌else◌, List, [], ◌∷◌, length, Option, Some, None, Result, Ok, Err}
use Rattle.cb_tree.specs.declared.node.NodeKind.{NodeKind}
use Rattle.cb_tree.specs.declared.role.Role.{Role}
use Rattle.cb_tree.specs.declared.role.Role.TheVariants as role
use Rattle.cb_tree.specs.Roles.{role_of, is_last}
use Rattle.cb_paths.specs.declared.limits.TheConstants.{SECTION_LIMIT}
use Rattle.cb_tree.specs.declared.fault.SourceKind.TheVariants as kind
use Rattle.cb_tree.specs.declared.fault.BadSource.{BadSource}
use Rattle.cb_tree.specs.declared.sections.OpenSection.{OpenSection}
use Rattle.cb_tree.specs.Nodes.{Node, node_line}

-- a section opens, unless as many are open as may be (own)
abbrev pub opened : ℕ → List OpenSection → Result (List OpenSection) BadSource
opened line sections =
    if length sections == SECTION_LIMIT then Err (record { kind = kind.TooDeep; line = line })
    else Ok (record { line = line; has_else = false } ∷ sections)

-- #elif, which no section may have after its #else (6.10 paragraph 1)
abbrev pub continued : ℕ → List OpenSection → Result (List OpenSection) BadSource
continued line [] = Err (record { kind = kind.StrayElif; line = line })
continued line (s ∷ ss) = if s.has_else then Err (record { kind = kind.AfterElse; line = line }) else Ok (s ∷ ss)

-- #else, which a section has once at most (6.10 paragraph 1)
abbrev pub turned : ℕ → List OpenSection → Result (List OpenSection) BadSource
turned line [] = Err (record { kind = kind.StrayElse; line = line })
turned line (s ∷ ss) =
    if s.has_else then Err (record { kind = kind.AfterElse; line = line })
    else Ok (record { line = s.line; has_else = true } ∷ ss)

-- #endif (6.10 paragraph 1)
abbrev pub closed : ℕ → List OpenSection → Result (List OpenSection) BadSource
closed line [] = Err (record { kind = kind.StrayEndif; line = line })
closed line (s ∷ ss) = Ok ss

-- the open sections after a node in this role, which may begin the last group of its section, or its fault (6.10.1)
abbrev pub sections_by : Role → Bool → ℕ → List OpenSection → Result (List OpenSection) BadSource
sections_by role.Within last line sections = Ok sections
sections_by role.Opens last line sections = opened line sections
sections_by role.Turns false line sections = continued line sections
sections_by role.Turns true line sections = turned line sections
sections_by role.Closes last line sections = closed line sections

-- the open sections after a node of the kind, or its fault (6.10.1)
abbrev pub sections_after : NodeKind → ℕ → List OpenSection → Result (List OpenSection) BadSource
sections_after kind = sections_by (role_of kind) (is_last kind)

-- the fault at the end: a section is open, the last opened of those still open (6.10 paragraph 1)
abbrev pub fault_at_end : List OpenSection → Option BadSource
fault_at_end [] = None
fault_at_end (s ∷ ss) = Some (record { kind = kind.OpenIf; line = s.line })

-- a fault, or what comes of the open sections (own)
abbrev pub fault_or : Result (List OpenSection) BadSource → (List OpenSection → Option BadSource) → Option BadSource
fault_or (Err fault) behind = Some fault
fault_or (Ok sections) behind = behind sections

-- the first fault of nodes, where these sections are open before them (own)
abbrev pub first_fault : List Node → List OpenSection → Option BadSource
first_fault [] sections = fault_at_end sections
first_fault (n ∷ ns) sections = fault_or (sections_after n.kind (node_line n) sections) (first_fault ns)
