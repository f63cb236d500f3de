-- The site of a soak: its content and its farm.
use Rattle.std.specs.Prelude.{◌++◌, ℕ, List, [], ◌∷◌, codes, flat_map}
use Rattle.std.specs.Fmt.{decimal}

-- the folders of the site, by their numbers
abbrev pub folders : List ℕ
folders = 0 ∷ 1 ∷ 2 ∷ 3 ∷ []

-- the pages of a folder, by their numbers, in the byte order of their names
abbrev pub pages : List ℕ
pages = 0 ∷ 1 ∷ 10 ∷ 11 ∷ 12 ∷ 13 ∷ 14 ∷ 15 ∷ 2 ∷ 3 ∷ 4 ∷ 5 ∷ 6 ∷ 7 ∷ 8 ∷ 9 ∷ []

-- a page as a kid of its folder: its type, and a number that stands at 0
abbrev pub page_member : ℕ → List ℕ
page_member page = codes ",\"p" ++ (decimal page ++ codes "\":{\"n\":0,\"sling:resourceType\":\"site/page\"}")

-- the pages of a folder as its kids
unfoldable pub page_members : List ℕ
page_members = flat_map page_member pages

-- the order of a folder's pages
unfoldable pub pages_order : List ℕ
pages_order = codes "\":order\":[\"p0\",\"p1\",\"p10\",\"p11\",\"p12\",\"p13\",\"p14\",\"p15\",\"p2\",\"p3\",\"p4\",\"p5\",\"p6\",\"p7\",\"p8\",\"p9\"]"

-- a folder as a kid of the site
abbrev pub folder_member : ℕ → List ℕ
folder_member folder = codes ",\"a" ++ (decimal folder ++ (codes "\":{" ++ (pages_order ++ (page_members ++ codes "}"))))

-- the folders as kids of the site
unfoldable pub folder_members : List ℕ
folder_members = flat_map folder_member folders

-- the type of the pages, and its script, which writes a page's number
unfoldable pub apps_member : List ℕ
apps_member =
    codes "\"apps\":{\":order\":[\"site\"],\"site\":{\":order\":[\"page\"],\"page\":{\":order\":[\"html.html\"],\"html.html\":{\":order\":[\"jcr:content\"],\"jcr:content\":{\"jcr:data\":\"<p>${properties.n}</p>\"}}}}}"

-- the line of the content: its JSON text (RFC 8259)
unfoldable pub content_line : List ℕ
content_line =
    codes "{\":order\":[\"apps\",\"content\"],"
    ++ (apps_member
    ++ (codes ",\"content\":{\":order\":[\"site\"],\"site\":{\":order\":[\"a0\",\"a1\",\"a2\",\"a3\"]"
    ++ (folder_members ++ codes "}}}\n")))

-- the farm: it keeps pages but JSON, outdates `.html` pages three folders deep, and lets this machine invalidate
unfoldable pub farm_lines : List ℕ
farm_lines =
    codes "# site farm\n/name \"dispatcher\"\n/farms { /site {\n"
    ++ (codes "  /clientheaders { \"*\" }\n"
    ++ (codes "  /virtualhosts { \"www.example.com\" \"localhost\" }\n"
    ++ (codes "  /renders { /rend01 { /hostname \"127.0.0.1\" /port \"4503\" } }\n"
    ++ (codes "  /filter {\n    /0001 { /type \"deny\" /glob \"*\" }\n"
    ++ (codes "    /0010 { /type \"allow\" /method \"GET\" /url \"/content/*\" }\n"
    ++ (codes "    /0011 { /type \"allow\" /method \"POST\" /url \"/content/*\" }\n"
    ++ (codes "    /0020 { /type \"deny\" /selectors \"infinity\" /extension \"json\" }\n  }\n"
    ++ (codes "  /cache {\n    /docroot \"/var/www/html\"\n    /statfileslevel \"3\"\n    /allowAuthorized \"0\"\n"
    ++ (codes "    /rules { /0000 { /glob \"*\" /type \"allow\" } /0001 { /glob \"*.json\" /type \"deny\" } }\n"
    ++ (codes "    /invalidate { /0000 { /glob \"*\" /type \"deny\" } /0001 { /glob \"*.html\" /type \"allow\" } }\n"
    ++ codes "    /allowedClients { /0000 { /glob \"*\" /type \"deny\" } /0001 { /glob \"127.0.0.1\" /type \"allow\" } }\n  }\n} }\n"))))))))))
