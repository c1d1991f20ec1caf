-- Which lines of one source are reached: the pass over that source alone.
use Rattle.std.specs.Prelude.{ℕ, ◌+◌, if◌then◌else◌, Bool, List, [], ◌∷◌, ◌++◌, map, codes, Some, None}
use Rattle.std.specs.Str.{bytes_eq}
use Rattle.cb_paths.specs.declared.language.Language.TheVariants.{C}
use Rattle.cb_tree.specs.Nodes.{Node}
use Rattle.cb_tree.specs.Skeleton.{skeleton}
use Rattle.cb_include.specs.declared.op.Op.TheVariants.{Define}
use Rattle.cb_include.specs.declared.command.Command.{Command}
use Rattle.cb_pass.specs.Files.{Files}

-- the path of the source (own)
abbrev pub source_path : List ℕ
source_path = codes "input.c"

-- the command that compiles the source: C, in the folder `/`, with these words of -D and nothing else (own)
abbrev pub command_of : List (List ℕ) → Command
command_of words = record {
  main = source_path;
  language = C;
  ops = map Define words;
  work = codes "/";
  quote = [];
  angle = [];
  forced = [];
  root = codes "/";
}

-- the source is the only file (own)
abbrev pub only : List Node → Files
only nodes path = if bytes_eq path source_path then Some (skeleton nodes) else None

-- the counted lines of the nodes that are reached, where the first of these nodes has this number (own)
abbrev pub lines_from : (ℕ → Bool) → ℕ → List Node → List ℕ
lines_from reached number [] = []
lines_from reached number (n ∷ ns) = (if reached number then n.counted else []) ++ lines_from reached (number + 1) ns

-- the counted lines of the nodes that are reached, which are numbered from 1 (own)
abbrev pub reached_lines : (ℕ → Bool) → List Node → List ℕ
reached_lines reached nodes = lines_from reached 1 nodes
