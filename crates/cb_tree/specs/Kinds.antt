-- The kind of a directive line, and its tokens behind the directive's name (6.10).
use Rattle.std.specs.Prelude.{ℕ, Bool, false, ◌||◌, if◌then◌else◌, List, [], ◌∷◌, codes}
use Rattle.std.specs.Str.{bytes_eq}
use Rattle.cb_tokens.specs.declared.token.Token.{Token}
use Rattle.cb_tokens.specs.Kinds.{is_identifier_kind}
use Rattle.cb_tree.specs.declared.node.NodeKind.{NodeKind}
use Rattle.cb_tree.specs.declared.node.NodeKind.TheVariants.{If, Ifdef, Ifndef, Elif, Else, Endif, Define, Undef, Include, Once, Error, Other}

-- # or the digraph %: (6.10 paragraph 2, 6.4.6 paragraph 3)
unfoldable pub is_hash_text : List ℕ → Bool
is_hash_text text = bytes_eq text (codes "#") || bytes_eq text (codes "%:")

-- the token is # (6.10 paragraph 2)
abbrev pub is_hash : Token → Bool
is_hash t = is_hash_text t.text

-- an identifier of this spelling stands first (own)
abbrev pub begins_with_name : List ℕ → List Token → Bool
begins_with_name name [] = false
begins_with_name name (t ∷ ts) = if is_identifier_kind t.kind then bytes_eq t.text name else false

-- the kind of a directive by the identifier behind its # and the tokens behind that (6.10; once is own)
unfoldable pub kind_of_name : List ℕ → List Token → NodeKind
kind_of_name name rest =
    if bytes_eq name (codes "if") then If
    else (if bytes_eq name (codes "ifdef") then Ifdef
    else (if bytes_eq name (codes "ifndef") then Ifndef
    else (if bytes_eq name (codes "elif") then Elif
    else (if bytes_eq name (codes "else") then Else
    else (if bytes_eq name (codes "endif") then Endif
    else (if bytes_eq name (codes "define") then Define
    else (if bytes_eq name (codes "undef") then Undef
    else (if bytes_eq name (codes "include") then Include
    else (if bytes_eq name (codes "error") then Error
    else (if bytes_eq name (codes "pragma") then (if begins_with_name (codes "once") rest then Once else Other)
    else Other))))))))))

-- the kind of a directive line, of its tokens behind the # (6.10)
abbrev pub kind_behind_hash : List Token → NodeKind
kind_behind_hash [] = Other
kind_behind_hash (t ∷ ts) = if is_identifier_kind t.kind then kind_of_name t.text ts else Other

-- the kind of a directive line (6.10)
abbrev pub kind_of : List Token → NodeKind
kind_of [] = Other
kind_of (hash ∷ ts) = kind_behind_hash ts

-- the tokens behind the name of a directive, or behind its # where no identifier follows that (6.10)
abbrev pub rest_behind_hash : List Token → List Token
rest_behind_hash [] = []
rest_behind_hash (t ∷ ts) = if is_identifier_kind t.kind then ts else t ∷ ts

-- the tokens of a directive line behind its name; none of text (6.10)
abbrev pub rest_of : List Token → List Token
rest_of [] = []
rest_of (hash ∷ ts) = rest_behind_hash ts
