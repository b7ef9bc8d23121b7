-- The text of a response (RFC 9112, section 4).
use Rattle.std.specs.Prelude.{ℕ, ◌++◌, ◌==◌, Bool, true, false, List, [], ◌∷◌, length, codes, unwrap_or, Option, Some, None, IsTrue}
use Rattle.std.specs.Fmt.{decimal}
use Rattle.std.specs.List.{list_any}
use Rattle.http.specs.StatusCode.{code_digits, reason_phrase}
use Rattle.arc_token.specs.declared.token.Token.{Token}

-- the statuses that are answered
abbrev pub IsAnswered : ℕ → Type 0
IsAnswered status = IsTrue (list_any (λ s. s == status) (200 ∷ 400 ∷ 402 ∷ 404 ∷ 409 ∷ 503 ∷ []))

-- the phrase of a status
abbrev pub phrase_of : ℕ → List ℕ
phrase_of status = unwrap_or (reason_phrase status) []

-- the header of a token, where there is one
abbrev pub token_line : Option Token → List ℕ
token_line None = []
token_line (Some token) = codes "x-arc-token: " ++ decimal token.0 ++ codes "\r\n"

-- the header that ends a connection
abbrev pub close_line : Bool → List ℕ
close_line true = codes "Connection: close\r\n"
close_line false = []

-- the status line, and the headers that every response has
unfoldable pub lines_with : List ℕ → List ℕ → ℕ → List ℕ
lines_with digits phrase size =
    codes "HTTP/1.1 " ++ digits ++ codes " " ++ phrase
    ++ codes "\r\nContent-Type: application/json\r\nContent-Length: " ++ decimal size ++ codes "\r\n"

-- the same of a status: its three digits and its phrase
abbrev pub head_lines : ℕ → ℕ → List ℕ
head_lines status size = lines_with (code_digits status) (phrase_of status) size

-- a response: these lines, those of a token and of the end, an empty line, the body
unfoldable pub response_text : ℕ → Option Token → Bool → List ℕ → List ℕ
response_text status token close body =
    head_lines status (length body) ++ token_line token ++ close_line close ++ codes "\r\n" ++ body
