-- The arguments of a call of a function-like macro (6.10.3).
use Rattle.std.specs.Prelude.{ℕ, zero, suc, pred, ◌-◌, Bool, true, false, not, if◌then◌else◌, List, [], ◌∷◌, length, take, drop, Option, Some, None, codes}
use Rattle.std.specs.Option.{option_map}
use Rattle.std.specs.Str.{bytes_eq}
use Rattle.cb_tokens.specs.declared.token.TokenKind.{TokenKind}
use Rattle.cb_tokens.specs.declared.token.TokenKind.TheVariants.{Punct}
use Rattle.cb_expand.specs.declared.sign.Sign.{Sign}
use Rattle.cb_expand.specs.declared.sign.Sign.TheVariants.{Open, Close, Comma, Plain}
use Rattle.cb_paste.specs.Shades.{Shaded}

-- what a token is to the arguments of a call (6.10.3, paragraphs 10 and 11)
unfoldable pub sign : TokenKind → List ℕ → Sign
sign Punct text =
    if bytes_eq text (codes "(") then Open
    else (if bytes_eq text (codes ")") then Close else (if bytes_eq text (codes ",") then Comma else Plain))
sign _ text = Plain

-- the same of a token (6.10.3, paragraphs 10 and 11)
abbrev pub sign_of_token : Shaded → Sign
sign_of_token t = sign t.kind t.text

-- a token ends an argument where so many inner parentheses are open, and commas separate or not (6.10.3, paragraphs 10 and 11)
abbrev pub ends_argument : Bool → ℕ → Sign → Bool
ends_argument commas zero Close = true
ends_argument commas zero Comma = commas
ends_argument commas _ _ = false

-- the inner parentheses that are open behind a token (6.10.3 paragraph 11)
abbrev pub depth_behind : ℕ → Sign → ℕ
depth_behind depth Open = suc depth
depth_behind depth Close = pred depth
depth_behind depth _ = depth

-- the list from the first token on that ends an argument; nothing where there is none (6.10.3, paragraphs 10 and 11)
unfoldable pub from_end : {T : Type 0} → (T → Sign) → Bool → ℕ → List T → List T
from_end sign_of commas depth [] = []
from_end sign_of commas depth (t ∷ ts) =
    if ends_argument commas depth (sign_of t) then t ∷ ts
    else from_end sign_of commas (depth_behind depth (sign_of t)) ts

-- what stands before the end of a list (own)
abbrev pub before : {T : Type 0} → List T → List T → List T
before ts end = take (length ts - length end) ts

-- the arguments of a call, the parenthesis that closes it, and what stands behind it (6.10.3 paragraph 10)
pub record Gathered : Type 0 where
  pub arguments : List (List Shaded)
  pub close : Shaded
  pub rest : List Shaded

-- one more argument in front (own)
abbrev pub with_argument : List Shaded → Gathered → Gathered
with_argument argument g = record g { arguments = argument ∷ g.arguments }

-- a closing parenthesis (6.4.6)
abbrev pub is_close : Sign → Bool
is_close Close = true
is_close _ = false

-- a comma (6.4.6)
abbrev pub is_comma : Sign → Bool
is_comma Comma = true
is_comma _ = false

-- an opening parenthesis (6.4.6)
abbrev pub is_open : Sign → Bool
is_open Open = true
is_open _ = false

-- these arguments, where a parenthesis stands behind them (6.10.3 paragraph 10)
unfoldable pub closed : List (List Shaded) → List Shaded → Option Gathered
closed arguments [] = None
closed arguments (c ∷ rest) =
    if is_close (sign_of_token c) then Some (record { arguments = arguments; close = c; rest = rest }) else None

-- an argument behind which a comma stands, and then others (6.10.3 paragraph 11)
unfoldable pub separated : List Shaded → List Shaded → Option Gathered → Option Gathered
separated argument [] others = None
separated argument (c ∷ rest) others =
    if is_comma (sign_of_token c) then option_map (with_argument argument) others else None

-- an argument for the last named parameter where nothing stands for ..., which is an empty argument then (own; 6.10.3
-- paragraph 12)
unfoldable pub alone : Bool → ℕ → List Shaded → List Shaded → Option Gathered → Option Gathered
alone true zero argument end (None) = closed (argument ∷ [] ∷ []) end
alone _ _ argument end others = others

-- the arguments for so many parameters, of which the last may stand for ..., of the tokens behind the opening parenthesis; a
-- wrong number is none (6.10.3, paragraphs 4, 10, 11 and 12)
unfoldable pub gather : Bool → ℕ → List Shaded → Option Gathered
gather variadic zero ts = closed [] ts
gather variadic (suc zero) ts =
    let end = from_end sign_of_token (not variadic) 0 ts in closed (before ts end ∷ []) end
gather variadic (suc (suc n)) ts =
    let end = from_end sign_of_token true 0 ts in
    alone variadic n (before ts end) end (separated (before ts end) end (gather variadic (suc n) (drop 1 end)))
