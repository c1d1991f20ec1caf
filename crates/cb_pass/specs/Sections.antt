-- The if sections that are open at a place of a source, the innermost first (6.10.1).
use Rattle.std.specs.Prelude.{Bool, true, false, not, ◌&&◌, ◌||◌, List, [], ◌∷◌}
use Rattle.cb_pass.specs.declared.section.Section.{Section}

-- live text: the group of the innermost section is taken, or none is open (6.10.1 paragraph 6)
abbrev pub is_live : List Section → Bool
is_live [] = true
is_live (s ∷ ss) = s.now

-- the innermost section stands in live text (6.10.1 paragraph 6)
abbrev pub is_before_live : List Section → Bool
is_before_live [] = false
is_before_live (s ∷ ss) = s.before

-- the next group of the innermost section may be taken: the section stands in live text, and none of its groups was
-- taken (6.10.1 paragraph 6)
abbrev pub may_be_taken : List Section → Bool
may_be_taken [] = false
may_be_taken (s ∷ ss) = s.before && not s.taken

-- a section opens, with the condition of its first group (6.10.1 paragraph 6)
abbrev pub entered : Bool → List Section → List Section
entered condition ss =
    record { before = is_live ss; taken = is_live ss && condition; now = is_live ss && condition } ∷ ss

-- a section goes on with a group that has a condition; it holds only where no group was taken before (6.10.1
-- paragraph 6)
abbrev pub section_continued : Bool → Section → Section
section_continued condition s =
    record { before = s.before; taken = s.taken || (s.before && condition); now = s.before && not s.taken && condition }

-- the innermost section goes on with a group that has a condition (6.10.1 paragraph 6)
abbrev pub continued : Bool → List Section → List Section
continued condition [] = []
continued condition (s ∷ ss) = section_continued condition s ∷ ss

-- a section goes on with its #else group (6.10.1 paragraph 6)
abbrev pub section_turned : Section → Section
section_turned s = record { before = s.before; taken = true; now = s.before && not s.taken }

-- the innermost section goes on with its #else group (6.10.1 paragraph 6)
abbrev pub turned : List Section → List Section
turned [] = []
turned (s ∷ ss) = section_turned s ∷ ss

-- #endif closes the innermost section (6.10, if-section)
abbrev pub closed : List Section → List Section
closed [] = []
closed (s ∷ ss) = ss
